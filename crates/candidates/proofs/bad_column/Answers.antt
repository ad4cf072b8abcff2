-- At each unit the columns are compared as numbers.
use Rattle.std.proofs.Common.{sym, ap, ◌∙◌}
use lib.Dec.{leb}
use borrow.Author.Tests.{le-leb, lt-leb}
use Rattle.record.specs.Below.{any_below}
use Rattle.record.proofs.Below.{any_none, any_more, any_found}
use Rattle.candidates.proofs.bad_column.Goals as goal

pub loop-j-init : goal.loop-j-init
loop-j-init c = any_none _

pub returns-then-column-columns : goal.returns-then-column-columns
returns-then-column-columns c =
    sym
    (ap (any_below _) (sym c.units-units.ensures)
    ∙ any_found _ _ _ c.loop-j-test.true (ap (leb _) (sym c.column.ensures) ∙ le-leb _ _ c.if-column-columns.true))

pub loop-j-preserved : goal.loop-j-preserved
loop-j-preserved c = any_more _ _ c.loop-j.invariant (ap (leb _) (sym c.column.ensures) ∙ lt-leb _ _ c.if-column-columns.false)
