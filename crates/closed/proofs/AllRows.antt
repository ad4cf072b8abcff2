-- The rows up to each count, filled one after the other. Assumes nothing.
use mathlib.Core.List.{List}
use mathlib.Core.Path.{◌≡◌, refl, subst, ◌∙◌}
use Prim.Native.Nat.{ℕ, suc, ◌+◌, ◌*◌, ◌≤◌, ◌<◌}
use native.Mathlib.Omega.{arith}
use lib.Ieee.{Float}
use lib.ListN.{length, get_or}
use Rattle.laws.proofs.Numbers.{by_order, row_within}
use Rattle.paths.specs.Problem.{Problem}
use Rattle.paths.specs.Cell.{empty}
use Rattle.paths.specs.CellRule.{rows}
use Rattle.paths.specs.Inner.Marks.{marks}
use Rattle.stages.specs.Tables.{StageTables}
use Rattle.rows.specs.Rows.{HoldsAt, Same, FirstRow}
use Rattle.rows.proofs.Cells.{same_refl, same_trans, same_holds}
use Rattle.rows.specs.Units.{UnitsOf, ReachedFrom}
use Rattle.closed.specs.Filled.{row_at, FilledNext, NextRow}
use Rattle.closed.specs.Searched.{row_with, scores_in}
use Rattle.closed.specs.Reported.{AllRows}
use Rattle.closed.specs.Asked.{Asked, Agrees, cells_for, Unused}

module _ (asked : Asked) where
  abbrev t : StageTables
  t = asked.tables

  -- rows up to that of s units are filled, the later ones unused, and all beyond as it was
  pub record RowsTo (best₀ : List Float) (back₀ : List ℕ) (best : List Float) (back : List ℕ) (s : ℕ) : Type 0 where
    pub bounded : s ≤ length asked.columns
    pub valued : length best ≡ length best₀
    pub marked : length back ≡ length back₀
    pub filled : (q : Problem) → Agrees asked q → AllRows q best back t.size s
    pub unused : (at : ℕ) → suc s * t.size ≤ at → at < cells_for asked → HoldsAt best back at empty
    pub rest : (at : ℕ) → cells_for asked ≤ at → Same best₀ back₀ best back at

  pub rows_begin :
      {best : List Float} {back : List ℕ} {best' : List Float} {back' : List ℕ} → Unused best back (cells_for asked) →
      FirstRow t.start t.gap best back best' back' t.size → (q : Problem) → Agrees asked q →
      RowsTo best' back' best' back' 0
  rows_begin {best} {back} {best'} {back'} clear first q₀ agrees₀ = record {
    bounded = omega arith;
    valued = refl;
    marked = refl;
    filled = λ q agrees s h j l.
        subst (λ (r : ℕ). HoldsAt best' back' (row_at t.size r j) (rows q (marks q) r j)) (zero_is s h)
        (subst (λ (at : ℕ). HoldsAt best' back' at (rows q (marks q) 0 j)) (place_is j) ((first q agrees.starts agrees.gaps).row j l));
    unused = λ at h l. same_holds ((first q₀ agrees₀.starts agrees₀.gaps).rest at (omega arith)) (clear.zero at l);
    rest = λ at h. same_refl best' back' at;
  }
    where
      zero_is : (s : ℕ) → s ≤ 0 → 0 ≡ s
      zero_is s h = omega arith

      place_is : (j : ℕ) → j ≡ 0 * t.size + j
      place_is j = omega arith

  -- beyond the cells that are used, what the first row left as it was
  pub first_rest :
      {best : List Float} {back : List ℕ} {best' : List Float} {back' : List ℕ} →
      FirstRow t.start t.gap best back best' back' t.size → (q : Problem) → Agrees asked q →
      (at : ℕ) → cells_for asked ≤ at → Same best back best' back' at
  first_rest first q agrees at h = (first q agrees.starts agrees.gaps).rest at (omega arith)

  module _ {best₀ : List Float} {back₀ : List ℕ} {best : List Float} {back : List ℕ} {s : ℕ} (was : RowsTo best₀ back₀ best back s)
      (more : s < length asked.columns) where
    pub next_fits : s * t.size + t.size + t.size ≤ cells_for asked
    next_fits = omega (arith, row_within t.size more)

    -- the scores that the code reads are those of the unit's column
    units_read :
        (score : ℕ → Float) → ((j : ℕ) → j < t.size → score j ≡ scores_in asked.phrase t (get_or asked.columns s 0) j) →
        (q : Problem) → Agrees asked q → UnitsOf q s (row_with t score asked.phrase.costs asked.strictness) t.size
    units_read score same q agrees =
        let units = agrees.units s more in
        record { origins = units.origins; value = λ i j h k ok. rw (same j k) (units.value i j h k ok) }

    module _ {best' : List Float} {back' : List ℕ} (b : length best' ≡ length best) (m : length back' ≡ length back) (score : ℕ → Float)
        (same : (j : ℕ) → j < t.size → score j ≡ scores_in asked.phrase t (get_or asked.columns s 0) j)
        (before : ℕ)
        (next : FilledNext (row_with t score asked.phrase.costs asked.strictness) best back best' back' t.size s before)
        (reach : (q : Problem) → Agrees asked q → ReachedFrom (rows q (marks q) s) t.size before) where
      reached : (q : Problem) → Agrees asked q → NextRow best back best' back' t.size s (rows q (marks q) (suc s))
      unfolding rows
      reached q agrees =
          next q agrees.gaps (units_read score same q agrees) (rows q (marks q) s) (was.filled q agrees s (omega arith))
          (reach q agrees)

      pub rows_more : (q : Problem) → Agrees asked q → RowsTo best₀ back₀ best' back' (s + 1)
      rows_more q₀ agrees₀ = record {
        bounded = omega arith;
        valued = b ∙ was.valued;
        marked = m ∙ was.marked;
        filled = λ q agrees r h j l. by_order r (suc s)
            (λ below. same_holds ((reached q agrees).before (row_at t.size r j) (in_row r j below l))
            (was.filled q agrees r (omega arith) j l))
            (λ above. subst (λ (x : ℕ). HoldsAt best' back' (row_at t.size x j) (rows q (marks q) x j)) (last_is r above h)
            (subst (λ (at : ℕ). HoldsAt best' back' at (rows q (marks q) (suc s) j)) (place_is j) ((reached q agrees).row j l)));
        unused = λ at h l. same_holds ((reached q₀ agrees₀).after at (omega (arith, h))) (was.unused at (omega (arith, h)) l);
        rest = λ at h. same_trans (was.rest at h) ((reached q₀ agrees₀).after at (omega (arith, next_fits)));
      }
        where
          last_is : (r : ℕ) → suc s ≤ r → r ≤ s + 1 → suc s ≡ r
          last_is r above h = omega arith

          place_is : (j : ℕ) → s * t.size + (t.size + j) ≡ suc s * t.size + j
          place_is j = omega arith

          in_row : (r j : ℕ) → r < suc s → j < t.size → row_at t.size r j < s * t.size + t.size
          in_row r j below l = omega (arith, row_within t.size below)
