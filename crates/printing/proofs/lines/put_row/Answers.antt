-- `put_row`: the row, or that there is none.
use Prim.Native.Nat.{ℕ}
use mathlib.Core.Bool.{Bool, cond}
use mathlib.Core.Path.{◌≡◌, sym, ap}
use native.Mathlib.Omega.{arith}
use borrow.Author.Tests.{eq-eqb, ne_eqb}
use Rattle.text.specs.Ascii.{ascii, decimal}
use Rattle.text.proofs.Putting.{renamed}
use Rattle.limits.specs.Common.{absent}
use Rattle.printing.specs.Listing.{row_text}
use Rattle.printing.proofs.lines.put_row.Goals as goal

-- the text by the test of the row
rows_same : (row : ℕ) {a b : Bool} → a ≡ b → cond a (ascii "-") (decimal row) ≡ cond b (ascii "-") (decimal row)
rows_same row same = ap (λ (none : Bool). cond none (ascii "-") (decimal row)) same

pub returns-then-row-eq-ABSENT : goal.returns-then-row-eq-ABSENT
unfolding row_text
returns-then-row-eq-ABSENT c =
    renamed (rows_same c.args.row (sym (eq-eqb c.args.row absent c.if-row-eq-ABSENT.true))) (omega arith) c.put.ensures

pub returns-else-row-eq-ABSENT : goal.returns-else-row-eq-ABSENT
unfolding row_text
returns-else-row-eq-ABSENT c =
    let written = c.put_decimal.ensures in
    renamed (rows_same c.args.row (sym (ne_eqb c.args.row absent c.if-row-eq-ABSENT.false))) written.puts.short written
