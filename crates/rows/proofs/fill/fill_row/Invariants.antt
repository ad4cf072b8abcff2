use Rattle.rows.specs.Inputs.{tables_by}
use Rattle.rows.proofs.Filling.{Filling}
use Rattle.rows.proofs.fill.fill_row.Given as goal

abbrev pub invariant-loop-j : goal.invariant-loop-j
invariant-loop-j l = Filling (tables_by l.inputs) l.inputs.n l.before l.since l.initial.best l.initial.back l.best l.back l.last l.j
