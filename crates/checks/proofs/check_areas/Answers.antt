-- What the record's own rules say comes first; 11 decides where they say nothing.
use Rattle.std.proofs.Common.{◌≤◌, sym, ap, subst, ◌∙◌}
use Rattle.std.proofs.lemmas.Result.{err_from_is_err_and}
use Rattle.limits.specs.Inner.Moderate.{Moderate}
use Rattle.limits.specs.declared.edition.Limits.{Limits}
use Rattle.limits.proofs.Editions.{moderate}
use Rattle.record.specs.Conditions.{short_desk}
use Rattle.record.proofs.Accepted.{counts}
use Rattle.record.proofs.Answers.{check_accepts, answer_refused, answer_short, answer_fine}
use Rattle.checks.proofs.check_areas.Goals as goal

pub returns-in_err-at : goal.returns-in_err-at
returns-in_err-at c =
    let p = err_from_is_err_and c.from_residual.result c.from_residual.ensures.1 in
    rw (p.1, p.2) (answer_refused _ _ _ _ _ c.check.ensures c.in_err-at.was)

pub short_desk-requires-clause-moderate : goal.short_desk-requires-clause-moderate
short_desk-requires-clause-moderate c = subst Moderate (sym c.limits_of.ensures) (moderate c.in_ok-at.at.edition)

pub short_desk-requires-clause-candidates_le_candidates : goal.short_desk-requires-clause-candidates_le_candidates
short_desk-requires-clause-candidates_le_candidates c =
    subst (λ (l : Limits). c.in_ok-at.at.candidates.count ≤ l.candidates) (sym c.limits_of.ensures)
    (counts ((check_accepts _ _).0 (sym c.check.ensures ∙ c.in_ok-at.was))).candidates

pub returns-then-short_desk : goal.returns-then-short_desk
returns-then-short_desk c =
    answer_short _ _ _ _ ((check_accepts _ _).0 (sym c.check.ensures ∙ c.in_ok-at.was))
    (ap (λ (l : Limits). short_desk l c.in_ok-at.at.candidates.count c.args.best c.args.back c.args.out) (sym c.limits_of.ensures)
    ∙ sym c.short_desk.ensures
    ∙ c.if-short_desk.true)

pub returns : goal.returns
returns c =
    answer_fine _ _ _ _ ((check_accepts _ _).0 (sym c.check.ensures ∙ c.in_ok-at.was))
    (ap (λ (l : Limits). short_desk l c.in_ok-at.at.candidates.count c.args.best c.args.back c.args.out) (sym c.limits_of.ensures)
    ∙ sym c.short_desk.ensures
    ∙ c.if-short_desk.false)
