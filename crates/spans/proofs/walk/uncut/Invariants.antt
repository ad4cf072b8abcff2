use Rattle.std.proofs.Common.{◌<◌, length, get_or}
use Rattle.laws.proofs.Filling.{Filling}
use Rattle.spans.specs.Inner.Walk.{Below, uncut_span}
use Rattle.spans.proofs.walk.uncut.Given as goal

abbrev pub invariant-loop-i : goal.invariant-loop-i
invariant-loop-i l =
    record {
      passed : l.i < length l.frames → Below l.bounds.boundaries.now (get_or l.frames l.i 0) l.past;
      filled : Filling (λ j. uncut_span l.bounds.boundaries.now l.bounds.lo_edge l.bounds.hi_edge (get_or l.frames j 0)) (length l.frames) l.initial.spans l.spans l.i;
    }
