-- A row, filled boundary by boundary. Assumes nothing.
use mathlib.Core.List.{List}
use mathlib.Core.Path.{◌≡◌, sym, ap, subst, ◌∙◌}
use Prim.Native.Nat.{ℕ, ◌+◌, ◌-◌, ◌≤◌, ◌<◌}
use native.Mathlib.Omega.{arith}
use lib.Ieee.{Float, nan}
use lib.ListN.{length, get_or, set, length-set}
use lib.Seq.{get_or-set_same}
use borrow.Author.Count.{below_more}
use Rattle.laws.proofs.Numbers.{by_order}
use Rattle.paths.specs.Problem.{Problem}
use Rattle.paths.specs.Cell.{Cell, empty, held}
use Rattle.paths.specs.Inner.Marks.{Marked, marks}
use Rattle.rows.specs.declared.way.Way.{Way}
use Rattle.rows.specs.Ways.{way_value, way_mark}
use Rattle.rows.specs.Rows.{Row, HoldsAt, Same, GapsOf, first, next, unfilled}
use Rattle.rows.specs.Units.{RowTables, UnitsOf, ReachedFrom, Begins, CellOf, arrivals, next_cells, NextFilled}
use Rattle.rows.proofs.Cells.{same_trans, same_holds, stored_beside, Filled, filled_holds, same_filled, stored_filled}
use Rattle.rows.proofs.Arrivals.{sweep_none}
use Rattle.rows.proofs.Kept.{arrivals_none}

-- the row's cells from its first reached boundary up to j are filled, `last` is the value of the last of them, and all others are as they
-- were
pub record Filling (t : RowTables) (n before since : ℕ) (best₀ : List Float) (back₀ : List ℕ) (best : List Float) (back : List ℕ) (last : Float)
    (j : ℕ) : Type 0 where
  pub begun : since ≤ j
  pub bounded : j ≤ n
  pub valued : length best ≡ length best₀
  pub marked : length back ≡ length back₀
  pub done :
      (q : Problem) (s : ℕ) → GapsOf q t.tables.gap n → UnitsOf q s t n → (cells : ℕ → Cell Marked) → Row best₀ back₀ first n cells →
      ReachedFrom cells n before → (i : ℕ) → i < j → since ≤ i → i < n → Filled best back (n + i) (next_cells q s cells i)
  pub carried : since < j → last ≡ get_or best (n + (j - 1)) nan
  pub below : (at : ℕ) → at < n + since → Same best₀ back₀ best back at
  pub above : (at : ℕ) → n + j ≤ at → Same best₀ back₀ best back at

module _ {t : RowTables} {n before since : ℕ} {best₀ : List Float} {back₀ : List ℕ} {best : List Float} {back : List ℕ} {last : Float}
    {j : ℕ}
    (was : Filling t n before since best₀ back₀ best back last j) (more : j < n) (b : n + n ≤ length best₀) (m : n + n ≤ length back₀)
    (way : Way) (cell : CellOf t best n before since j last way) (value : Float) (mark : ℕ) (valued : value ≡ way_value way)
    (marked : mark ≡ way_mark way) where
  beside : (at : ℕ) → (at ≡ n + j → ⊥) → Same best back (set best (n + j) value) (set back (n + j) mark) at
  beside = stored_beside best back (n + j) value mark

  here :
      (q : Problem) (s : ℕ) → GapsOf q t.tables.gap n → UnitsOf q s t n → (cells : ℕ → Cell Marked) → Row best₀ back₀ first n cells →
      ReachedFrom cells n before → Filled (set best (n + j) value) (set back (n + j) mark) (n + j) (next_cells q s cells j)
  here q s gaps of cells row reach =
      stored_filled best back (n + j) way (omega (arith, was.valued)) (omega (arith, was.marked)) valued marked
      (cell.kept q s gaps of back cells (λ i h. same_holds (was.below i (omega arith)) (row i h)) reach
      (get_or back (n + (j - 1)) 0) before_it)
    where
      before_it : since < j → next_cells q s cells (j - 1) ≡ held (record { value = last; mark = get_or back (n + (j - 1)) 0 })
      before_it after =
          rw (was.carried after) (was.done q s gaps of cells row reach (j - 1) (omega arith) (omega arith) (omega arith)).0

  pub turned : Filling t n before since best₀ back₀ (set best (n + j) value) (set back (n + j) mark) value (j + 1)
  turned = record {
    begun = omega (arith, was.begun);
    bounded = omega arith;
    valued = length-set best (n + j) value ∙ was.valued;
    marked = length-set back (n + j) mark ∙ was.marked;
    done =
        λ q s gaps of cells row reach. below_more
        (λ i. since ≤ i → i < n → Filled (set best (n + j) value) (set back (n + j) mark) (n + i) (next_cells q s cells i)) j
        (λ i h k l. same_filled (beside (n + i) (λ e. omega arith)) (was.done q s gaps of cells row reach i h k l))
        (λ h k. here q s gaps of cells row reach);
    carried = λ after.
        let place : n + (j + 1 - 1) ≡ n + j = omega arith in
        sym (ap (λ (at : ℕ). get_or (set best (n + j) value) at nan) place
        ∙ get_or-set_same best (n + j) value nan (omega (arith, was.valued)));
    below = λ at h. same_trans (was.below at h) (beside at (λ e. omega (arith, was.begun)));
    above = λ at h. same_trans (was.above at (omega arith)) (beside at (λ e. omega arith));
  }

-- the whole row, with what nothing reached before it
pub filled-all :
    {t : RowTables} {n before since : ℕ} {best₀ : List Float} {back₀ : List ℕ} {best : List Float} {back : List ℕ} {last : Float} {j : ℕ} →
    Filling t n before since best₀ back₀ best back last j → n ≤ j → Begins t n before since → Row best₀ back₀ (next n) n unfilled →
    (q : Problem) (s : ℕ) → GapsOf q t.tables.gap n → UnitsOf q s t n → (cells : ℕ → Cell Marked) → Row best₀ back₀ first n cells →
    ReachedFrom cells n before → NextFilled best₀ back₀ best back n (next_cells q s cells)
filled-all {t} {n} {before} {since} {best₀} {back₀} {best} {back} {j = j} was all begins clear q s gaps of cells row reach = record {
  row = λ i h. by_order i since
      (λ low. subst (HoldsAt best back (n + i)) (sym (nothing i h low)) (same_holds (was.below (n + i) (omega arith)) (clear i h)))
      (λ high. filled_holds best back (n + i) (was.done q s gaps of cells row reach i (omega arith) high h));
  before = λ at h. was.below at (omega arith);
  after = λ at h. was.above at (omega (arith, was.bounded));
}
  where
    nothing : (i : ℕ) → i < n → i < since → next_cells q s cells i ≡ empty
    nothing i h low =
        sweep_none (marks q) (arrivals q s cells) i
        (λ k l. arrivals_none before of best₀ back₀ row reach k (omega arith) (begins.none k (omega arith) (omega arith)))
