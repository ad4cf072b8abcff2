-- Rows of the work areas: count s has the n cells from s * n on.
use Rattle.std.specs.Prelude.{ℕ, ◌+◌, ◌*◌, ◌≤◌, ◌<◌, List, Float}
use Rattle.paths.specs.Problem.{Problem}
use Rattle.paths.specs.Cell.{Cell}
use Rattle.paths.specs.Inner.Marks.{Marked}
use Rattle.rows.specs.Rows.{Row, Same, GapsOf, unfilled}
use Rattle.rows.specs.Units.{RowTables, UnitsOf, ReachedFrom, next_cells}

-- the cell of s units and boundary j, in rows of n
abbrev pub row_at : ℕ → ℕ → ℕ → ℕ
row_at n s j = s * n + j

-- the row after that of s units is one that nothing reached
abbrev pub UnfilledAfter : List Float → List ℕ → ℕ → ℕ → Type 0
UnfilledAfter best back n s = Row best back (λ j. row_at n s (n + j)) n unfilled

-- The row after that of s units has what the units bring and the gaps carry on, and all other cells are as they were.
pub record NextRow (best : List Float) (back : List ℕ) (best' : List Float) (back' : List ℕ) (n s : ℕ) (cells : ℕ → Cell Marked) :
    Type 0 where
  pub row : Row best' back' (λ j. row_at n s (n + j)) n cells
  pub before : (at : ℕ) → at < s * n + n → Same best back best' back' at
  pub after : (at : ℕ) → s * n + n + n ≤ at → Same best back best' back' at

abbrev pub FilledNext : RowTables → List Float → List ℕ → List Float → List ℕ → ℕ → ℕ → ℕ → Type 0
FilledNext t best back best' back' n s before =
    (q : Problem) → GapsOf q t.tables.gap n → UnitsOf q s t n → (cells : ℕ → Cell Marked) → Row best back (row_at n s) n cells →
    ReachedFrom cells n before → NextRow best back best' back' n s (next_cells q s cells)
