use Rattle.std.proofs.Common.{ℕ, ◌<◌, length, get_or, sym, ap, subst, ◌∙◌}
use Rattle.laws.proofs.Listed.{length_listed, get_d_listed}
use Rattle.phrase.specs.Phrase.{Candidate}
use Rattle.record.specs.Conditions.{column_at}
use Rattle.record.specs.Layout.{limits_at}
use Rattle.record.proofs.Accepted.{fit, laid_limits}
use Rattle.record.proofs.Reading.{candidate_there, candidate_is}
use native.Mathlib.Nat.{lt_of_lt_of_le}
use Rattle.reading.proofs.accepted.AcceptedRecord.column.Goals as goal

pub column-requires-clause-i_lt_count : goal.column-requires-clause-i_lt_count
column-requires-clause-i_lt_count c = rw c.candidates.ensures.at (candidate_there c.args.self.now.laid c.requires.i_in_bounds)

pub column-requires-clause-j_lt_units : goal.column-requires-clause-j_lt_units
column-requires-clause-j_lt_units c =
    let laid = c.args.self.now.laid in
    rw (c.candidates.ensures.limits, laid_limits laid) (lt_of_lt_of_le c.requires.j_in_bounds ((fit laid).candidates c.args.i _ c.requires.i_in_bounds).few_units)

pub returns : goal.returns
returns c =
    let r = c.args.self.now in
    let list = c.candidates.ensures in
    let is = candidate_is r.laid c.requires.i_in_bounds in
    let columns = column_at (limits_at r.at) r.bytes.now r.at c.args.i in
    let there = subst (λ (n : ℕ). c.args.j < n) (ap (λ (x : Candidate). length x.columns) (sym is) ∙ length_listed columns _) c.requires.j_in_bounds in
    c.column.ensures
    ∙ rw (list.limits, list.bytes, list.at) (sym (get_d_listed columns _ c.args.j 0 there) ∙ ap (λ (x : Candidate). get_or x.columns c.args.j 0) is)
