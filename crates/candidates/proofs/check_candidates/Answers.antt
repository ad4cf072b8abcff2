-- The rules of candidate `i` are asked one after the other.
use Rattle.std.proofs.Common.{sym, ap, ◌∙◌}
use mathlib.Core.Option.{Option}
use Rattle.record.specs.Inner.Checks.{answer}
use Rattle.limits.specs.declared.refusal.Refusal.{Refusal}
use Rattle.candidates.proofs.Rules.{rest_done, first_twice, first_units, first_column, first_later}
use Rattle.candidates.proofs.check_candidates.Goals as goal

pub returns-then-repeated : goal.returns-then-repeated
returns-then-repeated c =
    let found = first_twice _ _ _ _ c.requires _ c.loop-i-test.true (sym c.repeated.ensures ∙ c.if-repeated.true) in
    ap (λ (o : Option Refusal). answer o tt) (found ∙ c.loop-i.invariant)

pub returns-then-bad_units : goal.returns-then-bad_units
returns-then-bad_units c =
    let found = first_units _ _ _ _ c.requires _ c.loop-i-test.true (sym c.repeated.ensures ∙ c.if-repeated.false) (sym c.bad_units.ensures ∙ c.if-bad_units.true) in
    ap (λ (o : Option Refusal). answer o tt) (found ∙ c.loop-i.invariant)

pub returns-then-bad_column : goal.returns-then-bad_column
returns-then-bad_column c =
    let found = first_column _ _ _ _ c.requires _ c.loop-i-test.true (sym c.repeated.ensures ∙ c.if-repeated.false) (sym c.bad_units.ensures ∙ c.if-bad_units.false) (sym c.bad_column.ensures ∙ c.if-bad_column.true) in
    ap (λ (o : Option Refusal). answer o tt) (found ∙ c.loop-i.invariant)

pub loop-i-preserved : goal.loop-i-preserved
loop-i-preserved c =
    first_later _ _ _ _ c.requires _ c.loop-i-test.true (sym c.repeated.ensures ∙ c.if-repeated.false) (sym c.bad_units.ensures ∙ c.if-bad_units.false) (sym c.bad_column.ensures ∙ c.if-bad_column.false)
    ∙ c.loop-i.invariant

pub returns : goal.returns
returns c = ap (λ (o : Option Refusal). answer o tt) (sym (rest_done _ _ _ _ c.loop-i-test.false) ∙ c.loop-i.invariant)
