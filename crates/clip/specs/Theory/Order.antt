-- The spans of anchored units run in order without overlapping, as `InOrder` says of all.
use Rattle.std.specs.Prelude.{ℕ, ◌≤◌, List, [], ◌∷◌}
use Rattle.clip.specs.Clip.{Placed, anchored, unanchored}

abbrev pub RowsInOrder : ℕ → List Placed → Type 0
RowsInOrder low [] = Unit {0}
RowsInOrder low (anchored row ∷ units) = (low ≤ row.start) × (row.start ≤ row.end) × RowsInOrder row.end units
RowsInOrder low (unanchored path ∷ units) = RowsInOrder low units
