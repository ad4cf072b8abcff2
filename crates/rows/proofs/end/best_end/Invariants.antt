use Rattle.rows.proofs.Ending.{Ending}
use Rattle.rows.proofs.end.best_end.Given as goal

abbrev pub invariant-loop-j : goal.invariant-loop-j
invariant-loop-j l = Ending l.best l.stop l.n l.since l.end l.j
