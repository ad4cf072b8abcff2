-- Whether a cell holds something.
use Rattle.std.specs.Prelude.{Bool, true, false}
use Rattle.paths.specs.Cell.{Cell, empty, held}

-- whether something reached the cell
abbrev pub is_held : {A : Type 0} → Cell A → Bool
is_held empty = false
is_held (held a) = true
