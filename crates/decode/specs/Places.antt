-- The units of a path as the code holds them, before clipping, and those of no path.
use Rattle.std.specs.Prelude.{ℕ, ◌<◌, cond, List, ltb, length, get_or, Some, None}
use Rattle.limits.specs.Capacity.{most_boundaries}
use Rattle.stages.specs.Search.{no_span}
use Rattle.stages.specs.declared.stage_tables.StageWords.{StageWords}
use Rattle.frames.specs.declared.unit.PlacedUnit.{PlacedUnit}
use Rattle.rows.specs.declared.trace.Bounds.{Bounds}
use Rattle.rows.specs.Traced.{no_bounds}

-- A unit from its first boundary to its last, from the words of its stage: one from below the middle of the last one's origins holds the last
-- anchor before it, with its row and its span; another has its path frames.
unfoldable pub place_of : StageWords → Bounds → PlacedUnit
place_of words unit =
    cond (ltb unit.first (get_or words.origins.ends.strict unit.last 0))
    (record {
      span = get_or words.spans unit.last no_span;
      row = Some (get_or words.rows unit.last 0);
    })
    (record { span = record { start = get_or words.bounds unit.first 0; end = get_or words.bounds unit.last 0 }; row = None })

-- What is looked up is there: the boundaries of the units, in the words.
pub record Placeable (units : List Bounds) : Type 0 where
  pub begins : (i : ℕ) → i < length units → (get_or units i no_bounds).first < most_boundaries
  pub ends : (i : ℕ) → i < length units → (get_or units i no_bounds).last < most_boundaries

-- "k empty spans": one of them
abbrev pub missed_at : ℕ → PlacedUnit
missed_at at = record { span = record { start = at; end = at }; row = None }
