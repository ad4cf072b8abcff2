use Rattle.std.proofs.Common.{◌≡◌}
use Rattle.evidence.specs.CreakyTail.{last_pitched}
use Rattle.evidence.proofs.evidence.last_pitched.Given as goal

abbrev pub invariant-loop-frame : goal.invariant-loop-frame
invariant-loop-frame l = last_pitched l.pitched l.fn.span.start l.fn.span.end ≡ last_pitched l.pitched l.fn.span.start l.frame
