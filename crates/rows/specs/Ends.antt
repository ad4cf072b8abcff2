-- The end that is chosen over a row, as the code's struct says it.
use Rattle.std.specs.Prelude.{ℕ, ◌<◌, Bool, cond, List, ◌≡◌, Float, get_or}
use Rattle.std.specs.Float.Ieee.{lt}
use Rattle.std.specs.Float.{nan}
use Rattle.paths.specs.Problem.{Problem}
use Rattle.paths.specs.Cell.{Cell, held}
use Rattle.paths.specs.Inner.Marks.{Marked, chosen_end, End as Ended}
use Rattle.rows.specs.declared.end.End.{End}
use Rattle.rows.specs.Rows.{Row, first}
use Rattle.rows.specs.Units.{ReachedFrom}

-- the code's struct as the end that it is
abbrev pub ended_by : End → Ended
ended_by end = record { sum = end.sum; at = end.boundary }

-- "Of equal ends the lowest boundary wins": a later one replaces only when strictly greater.
unfoldable pub or_end : End → End → End
or_end end later = cond (lt end.sum later.sum) later end

-- how two ends compare
abbrev pub higher_end : Ended → Ended → Bool
higher_end a b = lt a.sum b.sum

-- the costs of ending at each of a problem's boundaries, as a table
pub record StopsOf (q : Problem) (stop : List Float) (n : ℕ) : Type 0 where
  pub sized : q.size ≡ n
  pub costs : (j : ℕ) → j < n → get_or stop j nan ≡ q.stop_cost j

-- The end is the one chosen over the row that the cells hold, which reaches its boundaries from `since` on.
abbrev pub EndOf : Problem → List Float → ℕ → ℕ → End → Type 0
EndOf q best n since end =
    (back : List ℕ) (cells : ℕ → Cell Marked) → Row best back first n cells → ReachedFrom cells n since →
    held (ended_by end) ≡ chosen_end q cells
