-- The record's own rules refuse it.
use Rattle.std.proofs.Common.{sym, ◌∙◌}
use Rattle.std.proofs.lemmas.Result.{err_from_is_err_and}
use Rattle.record.proofs.Answers.{check_refuses}
use Rattle.most_units.specs.Answers.{is_refused}
use Rattle.most_units.proofs.most.most_units.Goals as goal

pub returns-in_err-at : goal.returns-in_err-at
returns-in_err-at c =
    let p = err_from_is_err_and c.from_residual.result c.from_residual.ensures.1 in
    rw (p.1, p.2) (is_refused ((check_refuses _ _).0 (sym c.check.ensures ∙ c.in_err-at.was)))
