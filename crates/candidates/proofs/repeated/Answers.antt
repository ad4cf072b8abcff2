-- At each candidate the ids are compared as numbers.
use Rattle.std.proofs.Common.{sym, ap₂, ◌∙◌}
use lib.Dec.{eqb}
use borrow.Author.Tests.{eq-eqb, ne_eqb}
use Rattle.record.proofs.Below.{any_none, any_more, any_found}
use Rattle.candidates.proofs.repeated.Goals as goal

pub loop-j-init : goal.loop-j-init
loop-j-init c = any_none _

pub returns-then-id : goal.returns-then-id
returns-then-id c =
    sym (any_found _ _ _ c.loop-j-test.true (ap₂ eqb (sym c.id.ensures) (sym c.id-id.ensures) ∙ eq-eqb _ _ c.if-id.true))

pub loop-j-preserved : goal.loop-j-preserved
loop-j-preserved c =
    any_more _ _ c.loop-j.invariant (ap₂ eqb (sym c.id.ensures) (sym c.id-id.ensures) ∙ ne_eqb _ _ c.if-id.false)
