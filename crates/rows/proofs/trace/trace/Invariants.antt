use Rattle.rows.proofs.Tracing.{Tracing}
use Rattle.rows.proofs.trace.trace.Given as goal

abbrev pub invariant-loop-units : goal.invariant-loop-units
invariant-loop-units l = Tracing l.back l.n l.k l.boundary l.units l.s l.j

abbrev pub decreases-loop-units : goal.decreases-loop-units
decreases-loop-units l = l.j
