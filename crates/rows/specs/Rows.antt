-- The cells of the two work areas, rows of them, and what each step of the search does to them.
use Rattle.std.specs.Prelude.{ℕ, suc, ◌+◌, ◌≤◌, ◌<◌, ◌≡◌, List, get_or, Float}
use Rattle.std.specs.Float.{binary64, nan}
use Rattle.std.specs.Float.Ieee.{of_bits}
use Rattle.paths.specs.Problem.{Problem}
use Rattle.paths.specs.Cell.{Cell, empty, held}
use Rattle.paths.specs.CellRule.{rows}
use Rattle.paths.specs.Inner.Marks.{Marked, marks}

-- What the two numbers of a cell stand for: both are 0 where nothing reached it.
pub data Holds : Float → ℕ → Cell Marked → Type 0 where
  unreached : Holds (of_bits binary64 0) 0 empty
  reached : {value : Float} {mark : ℕ} → 0 < mark → Holds value mark (held (record { value = value; mark = mark }))

abbrev pub HoldsAt : List Float → List ℕ → ℕ → Cell Marked → Type 0
HoldsAt best back at cell = Holds (get_or best at nan) (get_or back at 0) cell

-- The cells of a row, by the place of each boundary's cell.
abbrev pub Row : List Float → List ℕ → (ℕ → ℕ) → ℕ → (ℕ → Cell Marked) → Type 0
Row best back place n cells = (j : ℕ) → j < n → HoldsAt best back (place j) (cells j)

-- the first n cells, and the next n
abbrev pub first : ℕ → ℕ
first j = j

abbrev pub next : ℕ → ℕ → ℕ
next n j = n + j

-- a row that nothing reached
abbrev pub unfilled : ℕ → Cell Marked
unfilled j = empty

-- A cell is as it was.
pub record Same (best : List Float) (back : List ℕ) (best' : List Float) (back' : List ℕ) (at : ℕ) : Type 0 where
  pub value : get_or best' at nan ≡ get_or best at nan
  pub mark : get_or back' at 0 ≡ get_or back at 0

-- The first n cells are those of a row, and all others as they were.
pub record FirstFilled (best : List Float) (back : List ℕ) (best' : List Float) (back' : List ℕ) (n : ℕ) (cells : ℕ → Cell Marked) :
    Type 0 where
  pub row : Row best' back' first n cells
  pub rest : (at : ℕ) → n ≤ at → Same best back best' back' at

-- the values of a problem's starts, as a table
abbrev pub StartsOf : Problem → List Float → ℕ → Type 0
StartsOf q start n = (j : ℕ) → j < n → get_or start j nan ≡ q.start j

-- the gap costs of a problem, as a table
abbrev pub GapsOf : Problem → List Float → ℕ → Type 0
GapsOf q gap n = (i : ℕ) → suc i < n → get_or gap i nan ≡ q.gap_cost i

-- The row of no units is filled.
abbrev pub FirstRow : List Float → List Float → List Float → List ℕ → List Float → List ℕ → ℕ → Type 0
FirstRow start gap best back best' back' n =
    (q : Problem) → StartsOf q start n → GapsOf q gap n → FirstFilled best back best' back' n (rows q (marks q) 0)
