-- The row of no units, boundary by boundary. Assumes nothing.
use mathlib.Core.List.{List}
use mathlib.Core.Path.{◌≡◌, refl, sym, ap, subst, ◌∙◌}
use Prim.Native.Nat.{ℕ, zero, suc, ◌+◌, ◌-◌, ◌≤◌, ◌<◌}
use native.Mathlib.Omega.{arith}
use lib.Ieee.{Float, binary64, sub, nan}
use lib.ListN.{length, get_or, set, length-set}
use borrow.Author.Count.{below_more}
use Rattle.paths.specs.Problem.{Problem}
use Rattle.paths.specs.Cell.{held, keep, carry}
use Rattle.paths.specs.CellRule.{rows, sweep}
use Rattle.paths.specs.Inner.Marks.{marks}
use Rattle.stages.specs.declared.stage_tables.FillerCosts.{FillerCosts}
use Rattle.rows.specs.declared.way.Way.{Way}
use Rattle.rows.specs.declared.way.Way.TheVariants.{Start, Gap}
use Rattle.rows.specs.Ways.{way_value, way_mark, marked_by, or_later}
use Rattle.rows.specs.Rows.{Same, StartsOf, GapsOf}
use Rattle.rows.proofs.Cells.{higher, same_trans, stored_beside, or_keeps, Filled, same_filled, stored_filled}

-- the way kept at boundary j: the start, and after the first boundary the gap from the one before
unfoldable pub start_way : FillerCosts → ℕ → Way
start_way filler j = Start (get_or filler.start j nan)

unfoldable pub gap_way : FillerCosts → List Float → ℕ → Way
gap_way filler best j = Gap (sub binary64 (get_or best (j - 1) nan) (get_or filler.gap (j - 1) nan))

-- the row of no units: at a later boundary, the gap after the start
next_start :
    (q : Problem) (j : ℕ) → 0 < j →
    rows q (marks q) 0 j ≡ keep higher (held ((marks q).fresh j)) (carry ((marks q).over_gap (j - 1)) (rows q (marks q) 0 (j - 1)))
unfolding rows sweep marks
next_start q zero h = absurd (omega arith)
next_start q (suc j) h =
    let is : suc j - 1 ≡ j = omega arith in
    rw is

gap_from :
    (q : Problem) (filler : FillerCosts) (best : List Float) (mark j : ℕ) → get_or filler.gap (j - 1) nan ≡ q.gap_cost (j - 1) →
    carry ((marks q).over_gap (j - 1)) (held (record { value = get_or best (j - 1) nan; mark = mark }))
    ≡ held (marked_by (gap_way filler best j))
unfolding carry marks gap_way
gap_from q filler best mark j cost = rw (← cost)

-- boundaries below j have their cell, and the cells from j on are as they were
pub record Started (filler : FillerCosts) (n : ℕ) (best₀ : List Float) (back₀ : List ℕ) (best : List Float) (back : List ℕ)
    (j : ℕ) : Type 0 where
  pub bounded : j ≤ n
  pub valued : length best ≡ length best₀
  pub marked : length back ≡ length back₀
  pub done :
      (q : Problem) → StartsOf q filler.start n → GapsOf q filler.gap n → (i : ℕ) → i < j
      → Filled best back i (rows q (marks q) 0 i)
  pub rest : (at : ℕ) → j ≤ at → Same best₀ back₀ best back at

module _ {filler : FillerCosts} {n : ℕ} {best₀ : List Float} {back₀ : List ℕ} {best : List Float} {back : List ℕ} {j : ℕ}
    (was : Started filler n best₀ back₀ best back j) (more : j < n) where
  -- what the row has at boundary j
  starts-at :
      (q : Problem) → StartsOf q filler.start n → held ((marks q).fresh j) ≡ held (marked_by (start_way filler j))
  unfolding marks start_way
  starts-at q starts = rw (← starts j more)

  pub first_row :
      (q : Problem) → StartsOf q filler.start n → j ≡ 0 → rows q (marks q) 0 j ≡ held (marked_by (start_way filler j))
  unfolding rows sweep
  first_row q starts e = subst (λ (i : ℕ). rows q (marks q) 0 i ≡ held ((marks q).fresh i)) (sym e) refl ∙ starts-at q starts

  pub later-row :
      (q : Problem) → StartsOf q filler.start n → GapsOf q filler.gap n → 0 < j →
      rows q (marks q) 0 j ≡ held (marked_by (or_later (start_way filler j) (gap_way filler best j)))
  later-row q starts gaps h =
      next_start q j h
      ∙ rw (starts-at q starts, (was.done q starts gaps (j - 1) (omega arith)).0)
      (ap (keep higher (held (marked_by (start_way filler j)))) (carried q gaps)
      ∙ sym (or_keeps (start_way filler j) (gap_way filler best j)))
    where
      carried :
          (q : Problem) → GapsOf q filler.gap n →
          carry ((marks q).over_gap (j - 1)) (held (record { value = get_or best (j - 1) nan; mark = get_or back (j - 1) 0 }))
          ≡ held (marked_by (gap_way filler best j))
      carried q gaps =
          gap_from q filler best (get_or back (j - 1) 0) j (gaps (j - 1) (omega arith))

  module _ (b : n ≤ length best₀) (m : n ≤ length back₀) (way : Way) (value : Float) (mark : ℕ) (valued : value ≡ way_value way)
      (marked : mark ≡ way_mark way)
      (kept : (q : Problem) → StartsOf q filler.start n → GapsOf q filler.gap n
      → rows q (marks q) 0 j ≡ held (marked_by way)) where
    beside : (at : ℕ) → (at ≡ j → ⊥) → Same best back (set best j value) (set back j mark) at
    beside = stored_beside best back j value mark

    pub turned : Started filler n best₀ back₀ (set best j value) (set back j mark) (j + 1)
    turned = record {
      bounded = omega arith;
      valued = length-set best j value ∙ was.valued;
      marked = length-set back j mark ∙ was.marked;
      done = λ q starts gaps. below_more (λ i. Filled (set best j value) (set back j mark) i (rows q (marks q) 0 i)) j
          (λ i h. same_filled (beside i (λ e. omega arith)) (was.done q starts gaps i h))
          (stored_filled best back j way (omega (arith, was.valued)) (omega (arith, was.marked)) valued marked (kept q starts gaps));
      rest = λ at h. same_trans (was.rest at (omega arith)) (beside at (λ e. omega arith));
    }
