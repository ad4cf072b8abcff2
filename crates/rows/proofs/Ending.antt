-- The ends over a row, boundary by boundary. Assumes nothing.
use mathlib.Core.Bool.{Bool, true, false, cond}
use mathlib.Core.List.{List}
use mathlib.Core.Path.{◌≡◌, refl, sym, ◌∙◌}
use Prim.Native.Nat.{ℕ, zero, suc, ◌+◌, ◌≤◌, ◌<◌}
use native.Mathlib.Numerals.{add-one}
use native.Mathlib.Omega.{arith}
use lib.Ieee.{Float, binary64, lt, sub, nan}
use lib.ListN.{get_or}
use Rattle.paths.specs.Problem.{Problem}
use Rattle.paths.specs.Cell.{Cell, empty, held, keep, best as best_of, carry}
use Rattle.paths.specs.Inner.Marks.{Marked, chosen_end, End as Ended}
use Rattle.rows.specs.declared.end.End.{End}
use Rattle.rows.specs.Ends.{ended_by, or_end, higher_end, StopsOf}
use Rattle.rows.specs.Rows.{Row, first}
use Rattle.rows.specs.Units.{ReachedFrom}
use Rattle.paths.proofs.Cells.{keep_empty}
use Rattle.rows.proofs.Cells.{row_held, row_empty}

-- what ending at boundary j gives
unfoldable pub stopping : Problem → (ℕ → Cell Marked) → ℕ → Cell Ended
stopping q cells j = carry (λ (a : Marked). record { sum = sub binary64 a.value (q.stop_cost j); at = j }) (cells j)

pub chosen_is : (q : Problem) (cells : ℕ → Cell Marked) → best_of higher_end q.size (stopping q cells) ≡ chosen_end q cells
unfolding chosen_end stopping
chosen_is q cells = refl

-- the cell rule on ends is that on the code's struct
or-ends : (end later : End) → held (ended_by (or_end end later)) ≡ keep higher_end (held (ended_by end)) (held (ended_by later))
unfolding keep or_end
or-ends end later = go (lt end.sum later.sum)
  where
    go : (b : Bool) → held (ended_by (cond b later end)) ≡ cond b (held (ended_by later)) (held (ended_by end))
    go true = refl
    go false = refl

-- the end at boundary j, by the two tables
abbrev pub end_at : List Float → List Float → ℕ → End
end_at best stop j = record { sum = sub binary64 (get_or best j nan) (get_or stop j nan); boundary = j }

module _ {q : Problem} {stop : List Float} {n since : ℕ} (stops : StopsOf q stop n) (best : List Float)
    (back : List ℕ) {cells : ℕ → Cell Marked}
    (row : Row best back first n cells) (reach : ReachedFrom cells n since) where
  none_before : (m : ℕ) → m ≤ since → m ≤ n → best_of higher_end m (stopping q cells) ≡ empty
  unfolding best_of stopping carry
  none_before zero h k = refl
  none_before (suc m) h k =
      rw (row_empty best back row reach m (omega arith) (omega arith))
      (keep_empty higher_end (best_of higher_end m (stopping q cells)) ∙ none_before m (omega arith) (omega arith))

  stopping-at : (j : ℕ) → j < n → since ≤ j → stopping q cells j ≡ held (ended_by (end_at best stop j))
  unfolding stopping carry
  stopping-at j within h = rw (row_held best back row reach j within h, stops.costs j within)

  pub first-end : (since < n) → best_of higher_end (since + 1) (stopping q cells) ≡ held (ended_by (end_at best stop since))
  unfolding best_of keep
  first-end within =
      rw (add-one since, none_before since (omega arith) (omega arith)) (stopping-at since within (omega arith))

  pub one_more :
      (j : ℕ) (end : End) → j < n → since ≤ j → best_of higher_end j (stopping q cells) ≡ held (ended_by end) →
      best_of higher_end (j + 1) (stopping q cells) ≡ held (ended_by (or_end end (end_at best stop j)))
  unfolding best_of
  one_more j end within h e = rw (add-one j, e, stopping-at j within h) (sym (or-ends end (end_at best stop j)))

-- of the ends below j the best
pub record Ending (best stop : List Float) (n since : ℕ) (end : End) (j : ℕ) : Type 0 where
  pub begun : since < j
  pub bounded : j ≤ n
  pub chosen :
      (q : Problem) → StopsOf q stop n → (back : List ℕ) (cells : ℕ → Cell Marked) → Row best back first n cells →
      ReachedFrom cells n since →
      best_of higher_end j (stopping q cells) ≡ held (ended_by end)
