-- What the two numbers of a cell stand for, and what a way that is stored in it makes of that. Assumes nothing.
use mathlib.Core.Bool.{Bool, true, false, cond}
use mathlib.Core.Logic.{◌≢◌}
use mathlib.Core.List.{List}
use mathlib.Core.Path.{◌≡◌, refl, sym, subst, ◌∙◌}
use Prim.Native.Nat.{ℕ, ◌≤◌, ◌<◌}
use native.Mathlib.Omega.{arith}
use lib.Ieee.{Float, lt, nan}
use lib.ListN.{length, get_or, set}
use lib.Seq.{get_or-set_same, get_or-set_other}
use borrow.Author.Tests.{le-leb, lt-leb}
use Rattle.paths.specs.Cell.{Cell, empty, held, keep}
use Rattle.paths.specs.Inner.Held.{is_held}
use Rattle.paths.specs.Inner.Marks.{Marked}
use Rattle.rows.specs.declared.way.Way.{Way}
use Rattle.rows.specs.declared.way.Way.TheVariants.{Start, Gap, Unit}
use Rattle.rows.specs.Ways.{way_value, way_mark, Markable, marked_by, or_later}
use Rattle.rows.specs.Rows.{Holds, unreached, reached, HoldsAt, Row, Same, first}
use Rattle.rows.specs.Units.{ReachedFrom}
use Rattle.paths.proofs.Reached.{empty_is}

-- how two cells compare
abbrev pub higher : Marked → Marked → Bool
higher a b = lt a.value b.value

-- ---- reading

pub holds_empty : {value : Float} {mark : ℕ} {cell : Cell Marked} → Holds value mark cell → mark ≡ 0 → cell ≡ empty
holds_empty unreached e = refl
holds_empty (reached h) e = absurd (omega arith)

pub holds_held :
    {value : Float} {mark : ℕ} {cell : Cell Marked} → Holds value mark cell → mark ≢ 0 → cell ≡ held (record { value = value; mark = mark })
holds_held unreached e = absurd (e refl)
holds_held (reached h) e = refl

pub holds_reached :
    {value : Float} {mark : ℕ} {cell : Cell Marked} → Holds value mark cell → is_held cell ≡ true
    → cell ≡ held (record { value = value; mark = mark })
holds_reached unreached e = absurd (let z : ◌≡◌ {A = ℕ} 0 1 = cc in omega arith)
holds_reached (reached h) e = refl

module _ (best : List Float) (back : List ℕ) {n since : ℕ} {cells : ℕ → Cell Marked} (row : Row best back first n cells)
    (reach : ReachedFrom cells n since) where
  -- a boundary that a row reaches, and one that it does not
  pub row_held : (j : ℕ) → j < n → since ≤ j → cells j ≡ held (record { value = get_or best j nan; mark = get_or back j 0 })
  row_held j within h = holds_reached (row j within) (reach j within ∙ le-leb since j h)

  pub row_empty : (j : ℕ) → j < n → j < since → cells j ≡ empty
  row_empty j within h = empty_is (cells j) (reach j within ∙ lt-leb since j h)

-- ---- what is as it was

pub same_refl : (b : List Float) (m : List ℕ) (at : ℕ) → Same b m b m at
same_refl b m at = record { value = refl; mark = refl }

pub same_sym : {b₀ b₁ : List Float} {m₀ m₁ : List ℕ} {at : ℕ} → Same b₀ m₀ b₁ m₁ at → Same b₁ m₁ b₀ m₀ at
same_sym s = record { value = sym s.value; mark = sym s.mark }

pub same_trans :
    {b₀ b₁ b₂ : List Float} {m₀ m₁ m₂ : List ℕ} {at : ℕ} → Same b₀ m₀ b₁ m₁ at → Same b₁ m₁ b₂ m₂ at → Same b₀ m₀ b₂ m₂ at
same_trans s t = record { value = t.value ∙ s.value; mark = t.mark ∙ s.mark }

pub same_holds : {b₀ b₁ : List Float} {m₀ m₁ : List ℕ} {at : ℕ} {cell : Cell Marked} → Same b₀ m₀ b₁ m₁ at → HoldsAt b₀ m₀ at cell
    → HoldsAt b₁ m₁ at cell
same_holds s h = rw (s.value, s.mark) h

-- ---- a way stored

way_marks : (way : Way) → 0 < way_mark way
way_marks (Start value) = omega arith
way_marks (Gap value) = omega arith
way_marks (Unit value origin) = omega arith

-- the cell rule on ways is the cell rule on what is kept of them
pub or_keeps : (way later : Way) → held (marked_by (or_later way later)) ≡ keep higher (held (marked_by way)) (held (marked_by later))
unfolding keep or_later
or_keeps way later = go (lt (way_value way) (way_value later))
  where
    go : (b : Bool) → held (marked_by (cond b later way)) ≡ cond b (held (marked_by later)) (held (marked_by way))
    go true = refl
    go false = refl

pub or_markable : (way later : Way) → Markable way → Markable later → Markable (or_later way later)
unfolding or_later
or_markable way later h k = go (lt _ _)
  where
    go : (b : Bool) → Markable (cond b later way)
    go true = k
    go false = h

module _ (best : List Float) (back : List ℕ) (at : ℕ) (value : Float) (mark : ℕ) where
  -- storing both numbers of a cell leaves all others as they were
  pub stored_beside : (j : ℕ) → j ≢ at → Same best back (set best at value) (set back at mark) j
  stored_beside j h = record { value = get_or-set_other best at j value nan h; mark = get_or-set_other back at j mark 0 h }

-- ---- a cell that is reached, by its two numbers

abbrev pub Filled : List Float → List ℕ → ℕ → Cell Marked → Type 0
Filled best back at cell = (cell ≡ held (record { value = get_or best at nan; mark = get_or back at 0 })) × (0 < get_or back at 0)

pub filled_holds : (best : List Float) (back : List ℕ) (at : ℕ) {cell : Cell Marked} → Filled best back at cell → HoldsAt best back at cell
filled_holds best back at f = subst (HoldsAt best back at) (sym f.0) (reached f.1)

pub same_filled :
    {b₀ b₁ : List Float} {m₀ m₁ : List ℕ} {at : ℕ} {cell : Cell Marked} → Same b₀ m₀ b₁ m₁ at → Filled b₀ m₀ at cell → Filled b₁ m₁ at cell
same_filled s f = (rw (s.value, s.mark) f.0, omega (arith, s.mark, f.1))

pub stored_filled :
    (best : List Float) (back : List ℕ) (at : ℕ) (way : Way) {value : Float} {mark : ℕ} {cell : Cell Marked} → at < length best →
    at < length back →
    value ≡ way_value way → mark ≡ way_mark way → cell ≡ held (marked_by way) → Filled (set best at value) (set back at mark) at cell
stored_filled best back at way {value} {mark} h k v m e =
    let stored : get_or (set best at value) at nan ≡ way_value way = get_or-set_same best at value nan h ∙ v in
    let noted : get_or (set back at mark) at 0 ≡ way_mark way = get_or-set_same back at mark 0 k ∙ m in
    (rw (stored, noted) e, omega (arith, way_marks way))
