use Rattle.spans.specs.Inner.Walk.{Below}
use Rattle.spans.proofs.walk.below.Given as goal

abbrev pub invariant-loop-at : goal.invariant-loop-at
invariant-loop-at l = Below l.boundaries l.frame l.at
