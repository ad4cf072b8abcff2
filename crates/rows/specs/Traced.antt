-- The units that the marks lead back to, as the code's array holds them.
use Rattle.std.specs.Prelude.{ℕ, ◌+◌, ◌-◌, ◌*◌, List, ◌++◌, map, ◌≡◌, length, get_or, replicate}
use Rattle.limits.specs.Capacity.{most_units}
use Rattle.paths.specs.Inner.Marks.{Traces}
use Rattle.paths.specs.Path.{Bounds}
use Rattle.rows.specs.declared.trace.Bounds.{Bounds as HeldBounds}

-- the mark of the cell of s units and boundary j, in rows of n
abbrev pub mark_in : List ℕ → ℕ → ℕ → ℕ → ℕ
mark_in back n s j = get_or back (s * n + j) 0

-- the marks lead back from that cell to some units
abbrev pub Traceable : List ℕ → ℕ → ℕ → ℕ → Type 0
Traceable back n s j = (units : List Bounds) × Traces (mark_in back n) s j units

-- the bounds of a unit as the code's struct has them
abbrev pub held_bounds : Bounds → HeldBounds
held_bounds unit = record { first = unit.first; last = unit.last }

abbrev pub no_bounds : HeldBounds
no_bounds = record { first = 0; last = 0 }

-- The first bounds are those of the units in path order, and the others 0.
abbrev pub UnitsAre : List HeldBounds → List Bounds → Type 0
UnitsAre held units = held ≡ map held_bounds units ++ replicate (most_units - length units) no_bounds
