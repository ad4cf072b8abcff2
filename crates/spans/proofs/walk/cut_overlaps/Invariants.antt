use Rattle.std.proofs.Common.{◌+◌, length}
use Rattle.laws.proofs.Filling.{Filling}
use Rattle.spans.specs.Inner.Walk.{starts_of, ends_of, cut_start, cut_end}
use Rattle.spans.proofs.walk.cut_overlaps.Given as goal

abbrev pub invariant-loop-i : goal.invariant-loop-i
invariant-loop-i l =
    record {
      starts : Filling (cut_start l.frames (starts_of l.initial.spans) (ends_of l.initial.spans)) (length l.frames) (starts_of l.initial.spans) (starts_of l.spans) (l.i + 1);
      ends : Filling (cut_end l.frames (starts_of l.initial.spans) (ends_of l.initial.spans)) (length l.frames) (ends_of l.initial.spans) (ends_of l.spans) l.i;
    }
