-- What the units out of a row bring, origin by origin. Assumes nothing.
use mathlib.Core.Bool.{Bool, true, false}
use mathlib.Core.Logic.{◌⊎◌, inl, inr}
use mathlib.Core.Path.{◌≡◌, refl, sym, ap, ◌∙◌}
use Prim.Native.Nat.{ℕ, zero, suc, ◌+◌, ◌≤◌, ◌<◌}
use native.Mathlib.Omega.{arith}
use lib.Ieee.{binary64, add}
use Rattle.paths.specs.Problem.{Problem}
use Rattle.paths.specs.Cell.{Cell, empty, held, keep, best as best_of, carry, only}
use Rattle.paths.specs.CellRule.{Keeping, arrival, sweep}
use Rattle.paths.specs.Inner.Marks.{Marked, marks}
use Rattle.rows.specs.declared.way.Way.{Way}
use Rattle.rows.specs.declared.way.Way.TheVariants.{Unit}
use Rattle.rows.specs.Ways.{marked_by, or_later, or_each}
use Rattle.paths.proofs.Cells.{keep_empty}
use Rattle.rows.proofs.Cells.{higher, or_keeps}

-- what the first m origins bring to boundary j
unfoldable pub brought : Problem → ℕ → (ℕ → Cell Marked) → ℕ → ℕ → Cell Marked
brought q s cells j m = best_of higher m (arrival q (marks q) s cells j)

only_empty : {A : Type 0} (b : Bool) → only {A = A} b empty ≡ empty
unfolding only
only_empty true = refl
only_empty false = refl

module _ (q : Problem) (s : ℕ) (cells : ℕ → Cell Marked) (j : ℕ) where
  -- an origin that brings nothing: nothing reached it, or the unit from there is barred
  abbrev pub Idle : ℕ → Type 0
  Idle i = (cells i ≡ empty) ⊎ (q.unit_ok i j ≡ false)

  brought_idle : (i : ℕ) → Idle i → brought q s cells j (suc i) ≡ brought q s cells j i
  unfolding brought best_of arrival carry only
  brought_idle i (inl e) = rw (e, only_empty) (keep_empty higher (best_of higher i (arrival q (marks q) s cells j)))
  brought_idle i (inr e) = rw e (keep_empty higher (best_of higher i (arrival q (marks q) s cells j)))

  -- where all of the first m are so
  pub brought_none : (m : ℕ) → ((i : ℕ) → i < m → Idle i) → brought q s cells j m ≡ empty
  unfolding brought best_of
  brought_none zero idle = refl
  brought_none (suc m) idle = brought_idle m (idle m (omega arith)) ∙ brought_none m (λ i h. idle i (omega arith))

  -- where all those from m on are so
  pub brought_past : (m n : ℕ) → ((i : ℕ) → m ≤ i → i < m + n → Idle i) → brought q s cells j (m + n) ≡ brought q s cells j m
  brought_past m zero idle = ap (brought q s cells j) (omega arith)
  brought_past m (suc n) idle =
      ap (brought q s cells j) (omega arith) ∙ brought_idle (m + n) (idle (m + n) (omega arith) (omega arith))
      ∙ brought_past m n (λ i h k. idle i h (omega arith))

  -- a unit that is admitted, from a boundary that was reached
  pub record Arrives (i : ℕ) (way : Way) : Type 0 where
    pub from : Marked
    pub there : cells i ≡ held from
    pub ok : q.unit_ok i j ≡ true
    pub is : way ≡ Unit (add binary64 from.value (q.unit_value s i j)) i

  brought_unit :
      (i : ℕ) {way : Way} → Arrives i way → brought q s cells j (suc i) ≡ keep higher (brought q s cells j i) (held (marked_by way))
  unfolding brought best_of arrival only carry marks
  brought_unit i a = rw (a.is, a.ok, a.there)

  -- the first that arrives
  pub brought_first : (i : ℕ) {way : Way} → brought q s cells j i ≡ empty → Arrives i way
      → brought q s cells j (suc i) ≡ held (marked_by way)
  unfolding keep
  brought_first i {way} e a = brought_unit i a ∙ ap (λ (c : Cell Marked). keep higher c (held (marked_by way))) e

  -- and those after it
  pub brought_each :
      (way : ℕ → Way) (n i : ℕ) (kept : Way) → brought q s cells j i ≡ held (marked_by kept) →
      ((k : ℕ) → i ≤ k → k < i + n → Arrives k (way k)) → brought q s cells j (i + n) ≡ held (marked_by (or_each way kept i n))
  unfolding or_each
  brought_each way zero i kept e arrives = ap (brought q s cells j) (omega arith) ∙ e
  brought_each way (suc n) i kept e arrives =
      ap (brought q s cells j) (omega arith)
      ∙ brought_each way n (suc i) (or_later kept (way i))
      (brought_unit i (arrives i (omega arith) (omega arith)) ∙ ap (λ (c : Cell Marked). keep higher c (held (marked_by (way i)))) e
      ∙ sym (or_keeps kept (way i)))
      (λ k h l. arrives k (omega arith) (omega arith))

-- ---- a row that is swept by gaps

-- up to where nothing arrives, nothing is carried on
pub sweep_none :
    (kept : Keeping Marked) (arrived : ℕ → Cell Marked) (j : ℕ) → ((i : ℕ) → i ≤ j → arrived i ≡ empty) → sweep kept arrived j ≡ empty
unfolding sweep keep carry
sweep_none kept arrived zero none = none zero (omega arith)
sweep_none kept arrived (suc j) none =
    rw (none (suc j) (omega arith)) (ap (carry (kept.over_gap j)) (sweep_none kept arrived j (λ i h. none i (omega arith))))

-- the first boundary that something arrives at
pub sweep_first :
    (kept : Keeping Marked) (arrived : ℕ → Cell Marked) (j : ℕ) → ((i : ℕ) → i < j → arrived i ≡ empty) → sweep kept arrived j ≡ arrived j
unfolding sweep carry
sweep_first kept arrived zero none = refl
sweep_first kept arrived (suc j) none =
    ap (λ (c : Cell Marked). keep kept.less (arrived (suc j)) (carry (kept.over_gap j) c))
    (sweep_none kept arrived j (λ i h. none i (omega arith)))
    ∙ keep_empty kept.less (arrived (suc j))
