use Rattle.std.proofs.Common.{◌≤◌}
use Rattle.stages.specs.Places.{count_below}
use Rattle.stages.proofs.anchors.advance.Given as goal

abbrev pub invariant-loop-at : goal.invariant-loop-at
invariant-loop-at l = l.at ≤ count_below l.frames l.bound
