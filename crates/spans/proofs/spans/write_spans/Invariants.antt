use Rattle.frames.specs.Inner.Left.{frames_left}
use Rattle.spans.proofs.Words.{Written}
use Rattle.spans.proofs.spans.write_spans.Given as goal

abbrev pub invariant-loop-i : goal.invariant-loop-i
invariant-loop-i l =
    record {
      can : (goal.iterator-loop-i).can_next l.i-iterator;
      finite : (goal.iterator-loop-i).is_finite l.i-iterator;
      written : Written l.nuclei l.bounds.boundaries.now l.bounds.lo_edge l.bounds.hi_edge l.initial.out l.out l.i-iterator.count (frames_left l.i-iterator.iter);
    }
