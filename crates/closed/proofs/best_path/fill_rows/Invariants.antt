use Rattle.closed.specs.Tasks.{asked_by}
use Rattle.closed.proofs.AllRows.{RowsTo}
use Rattle.closed.proofs.best_path.fill_rows.Given as goal

abbrev pub invariant-loop-s : goal.invariant-loop-s
invariant-loop-s l = RowsTo (asked_by l.stage) l.initial.best l.initial.back l.best l.back l.s
