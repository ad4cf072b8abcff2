-- What the rules of the trailer say comes first; those of the contents decide where they say nothing.
use Rattle.std.proofs.Common.{sym, ◌∙◌}
use Rattle.std.proofs.lemmas.Result.{err_from_is_err_and}
use Rattle.record.proofs.Answers.{accepts, trailer_refused, contents_refused, contents_accepted}
use Rattle.record.proofs.Reading.{in_reach, sections_in_reach, candidates_in_reach}
use Rattle.checks.proofs.check.Goals as goal

pub returns-in_err-at : goal.returns-in_err-at
returns-in_err-at c =
    let p = err_from_is_err_and c.from_residual.result c.from_residual.ensures.1 in
    rw (p.1, p.2) (trailer_refused _ _ (sym c.check_trailer.ensures ∙ c.in_err-at.was))

pub check_contents-requires-clause-within : goal.check_contents-requires-clause-within
check_contents-requires-clause-within c =
    let found = accepts _ _ _ (sym c.check_trailer.ensures ∙ c.in_ok-at.was) in
    sections_in_reach _ (in_reach _ found.0) found.1

pub check_contents-requires-clause-candidates_read : goal.check_contents-requires-clause-candidates_read
check_contents-requires-clause-candidates_read c =
    let found = accepts _ _ _ (sym c.check_trailer.ensures ∙ c.in_ok-at.was) in
    candidates_in_reach _ (in_reach _ found.0) found.1

pub returns-in_err-check_contents : goal.returns-in_err-check_contents
returns-in_err-check_contents c =
    let p = err_from_is_err_and c.from_residual-in_err-check_contents.result c.from_residual-in_err-check_contents.ensures.1 in
    let found = accepts _ _ _ (sym c.check_trailer.ensures ∙ c.in_ok-at.was) in
    rw (p.1, p.2) (contents_refused _ found.0 found.1 _ (sym c.check_contents.ensures ∙ c.in_err-check_contents.was))

pub returns : goal.returns
returns c =
    let found = accepts _ _ _ (sym c.check_trailer.ensures ∙ c.in_ok-at.was) in
    contents_accepted _ found.0 found.1 (sym c.check_contents.ensures ∙ c.in_ok-check_contents.was)
