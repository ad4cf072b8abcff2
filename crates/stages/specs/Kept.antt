-- How kept anchors stand in arrays.
use Rattle.std.specs.Prelude.{ℕ, ◌≡◌, List, map, length}
use Rattle.laws.specs.Inner.Tables.{padded}
use Rattle.paths.specs.Anchors.{Anchor, kept_in}
use Rattle.stages.specs.declared.stage_parts.StageParts.{StageParts}
use Rattle.limits.specs.Capacity.{anchor_room}
use Rattle.limits.specs.Common.{absent}

-- the kept anchors of a stage
abbrev pub kept_of : StageParts → List Anchor
kept_of stage = kept_in stage.mask.now stage.first_row stage.anchors.now

abbrev pub frames_of : List Anchor → List ℕ
frames_of anchors = map (λ anchor. anchor.frame) anchors

abbrev pub rows_of : List Anchor → List ℕ
rows_of anchors = map (λ anchor. anchor.row) anchors

pub record Keeps (anchors : List Anchor) (count : ℕ) (frames rows : List ℕ) : Type 0 where
  pub counted : count ≡ length anchors
  pub framed : frames ≡ padded (frames_of anchors) anchor_room absent
  pub rowed : rows ≡ padded (rows_of anchors) anchor_room 0
