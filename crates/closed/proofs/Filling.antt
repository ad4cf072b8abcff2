-- The row after that of s units, filled in the part of the work areas from row s on. Assumes nothing.
use mathlib.Core.List.{List}
use Prim.Native.Nat.{ℕ, ◌+◌, ◌-◌, ◌*◌, ◌≤◌}
use native.Mathlib.Omega.{arith}
use lib.Ieee.{Float}
use lib.ListN.{length}
use Rattle.laws.proofs.Numbers.{by_order}
use Rattle.paths.specs.Cell.{Cell}
use Rattle.paths.specs.Inner.Marks.{Marked}
use Rattle.rows.specs.Rows.{Row, first, next, unfilled}
use Rattle.rows.specs.Units.{RowTables, next_cells, NextFilled, RowFilled}
use Rattle.closed.specs.Filled.{row_at, UnfilledAfter, FilledNext}
use Rattle.closed.proofs.Parts.{part, put, part_holds, put_holds, put_same_below, put_same}

module _ (best : List Float) (back : List ℕ) (n s : ℕ) (b : s * n + n + n ≤ length best) (m : s * n + n + n ≤ length back) where
  row_lent : {cells : ℕ → Cell Marked} → Row best back (row_at n s) n cells → Row (part (s * n) best) (part (s * n) back) first n cells
  row_lent row j h = part_holds best back (s * n) j (row j h)

  pub next_lent : UnfilledAfter best back n s → Row (part (s * n) best) (part (s * n) back) (next n) n unfilled
  next_lent row j h = part_holds best back (s * n) (n + j) (row j h)

  -- what is filled in the part is filled in the whole
  pub next_row :
      (t : RowTables) (before : ℕ) (best₁ : List Float) (back₁ : List ℕ) →
      RowFilled t (part (s * n) best) (part (s * n) back) best₁ back₁ n before →
      FilledNext t best back (put (s * n) best best₁) (put (s * n) back back₁) n s before
  next_row t before best₁ back₁ filled q gaps of cells row reach = record {
    row = λ j h. put_holds best back (s * n) (omega arith) (omega arith) best₁ back₁ (n + j) (there.row j h);
    before = λ at h. by_order at (s * n)
        (λ l. put_same_below best back (s * n) (omega arith) (omega arith) best₁ back₁ at l)
        (λ l. put_same best back (s * n) (omega arith) (omega arith) best₁ back₁ at l (there.before (at - s * n) (omega arith)));
    after =
        λ at h. put_same best back (s * n) (omega arith) (omega arith) best₁ back₁ at (omega arith)
        (there.after (at - s * n) (omega arith));
  }
    where
      there : NextFilled (part (s * n) best) (part (s * n) back) best₁ back₁ n (next_cells q s cells)
      there = filled q s gaps of cells (row_lent row) reach
