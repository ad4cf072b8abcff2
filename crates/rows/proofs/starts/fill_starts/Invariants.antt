use Rattle.rows.proofs.Starting.{Started}
use Rattle.rows.proofs.starts.fill_starts.Given as goal

abbrev pub invariant-loop-j : goal.invariant-loop-j
invariant-loop-j l = Started l.filler l.n l.initial.best l.initial.back l.best l.back l.j
