-- What the search of one problem reports: the sum and the units of the path chosen, or that there is none.
use Rattle.std.specs.Prelude.{ℕ, ◌≤◌, List, [], ◌≡◌, Float, Option, Some, None, IfSome}
use Rattle.paths.specs.Problem.{Problem}
use Rattle.paths.specs.Path.{Path as Route, sum, Bounds, units_of}
use Rattle.paths.specs.Cell.{Cell, empty, held, carry}
use Rattle.paths.specs.CellRule.{rows, chosen_path}
use Rattle.paths.specs.Inner.Marks.{marks}
use Rattle.rows.specs.Rows.{Row}
use Rattle.rows.specs.Ends.{StopsOf}
use Rattle.rows.specs.Units.{ReachedFrom}
use Rattle.rows.specs.Traced.{UnitsAre}
use Rattle.closed.specs.declared.path.Path.{Path}
use Rattle.closed.specs.Filled.{row_at}

-- the sum that is found, or none
abbrev pub sum_found : Option Path → Cell Float
sum_found (Some path) = held path.sum
sum_found None = empty

abbrev pub units_in : Cell Route → List Bounds
units_in empty = []
units_in (held path) = units_of path

-- "The path chosen, for a pass and a count, is the one that the cell rule [..] keeps."
pub record Reports (q : Problem) (k : ℕ) (path : Option Path) : Type 0 where
  pub found : sum_found path ≡ carry (sum q) (chosen_path q k)
  pub units : IfSome path (λ (here : Path). UnitsAre here.units (units_in (chosen_path q k)))

-- every count's row up to k is filled, in rows of n
abbrev pub AllRows : Problem → List Float → List ℕ → ℕ → ℕ → Type 0
AllRows q best back n k = (s : ℕ) → s ≤ k → Row best back (row_at n s) n (rows q (marks q) s)

-- the last of them reaches its boundaries from `since` on
abbrev pub LastReached : Problem → ℕ → ℕ → ℕ → Type 0
LastReached q n k since = ReachedFrom (rows q (marks q) k) n since

-- they are those of some problem that the end's costs are of
abbrev pub SomeRows : List Float → List Float → List ℕ → ℕ → ℕ → ℕ → Type 0
SomeRows stop best back n k since = (q : Problem) × StopsOf q stop n × AllRows q best back n k × LastReached q n k since
