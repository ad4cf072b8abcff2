-- The units that code holds: each with its anchor's row, or without one. The frames are those of the row's span, or the path's where there
-- is no anchor.
use Rattle.std.specs.Prelude.{ℕ, ◌≡◌, List, map, Option, Some, None}
use Rattle.frames.specs.declared.span.Span.{Span}
use Rattle.frames.specs.declared.unit.PlacedUnit.{PlacedUnit}
use Rattle.clip.specs.Clip.{Placed, anchored, unanchored, reported}

abbrev pub placed_as : Option ℕ → Span → Placed
placed_as (Some row) span = anchored span
placed_as None span = unanchored span

abbrev pub placed : PlacedUnit → Placed
placed unit = placed_as unit.row unit.span

-- units that have the spans reported for these, and their rows
pub record Clipped (before after : List PlacedUnit) : Type 0 where
  pub spans : map (λ unit. unit.span) after ≡ reported (map placed before)
  pub rows : map (λ unit. unit.row) after ≡ map (λ unit. unit.row) before
