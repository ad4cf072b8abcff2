-- What the code and the laws ask of an edition: that its numbers are within the capacities, and so small that no product of counts leaves a
-- 64-bit word and no sum of figures is infinite.
use Rattle.std.specs.Prelude.{ℕ, ◌≤◌}
use Rattle.limits.specs.Capacity.{most_units, most_boundaries, most_anchors, most_candidates}
use Rattle.limits.specs.declared.edition.Limits.{Limits}

-- what the numbers stay below that no array is made for
abbrev pub most_count : ℕ
most_count = 65536

pub record Moderate (l : Limits) : Type 0 where
  pub frames : l.frames ≤ most_count
  pub columns : l.columns ≤ most_count
  pub candidates : l.candidates ≤ most_candidates
  pub nuclei : l.nuclei ≤ most_anchors
  pub anchors : l.anchors ≤ most_anchors
  pub boundaries : l.boundaries ≤ most_boundaries
  pub units : l.units ≤ most_units
