-- Where a boundary stands among ascending frames: how many of them are below it.
use Rattle.std.specs.Prelude.{ℕ, suc, ◌+◌, ◌≤◌, ◌≡◌, cond, List, [], ◌∷◌, ltb, length}
use Rattle.laws.specs.Inner.Tables.{padded, table_of}
use Rattle.paths.specs.Anchors.{Anchor}
use Rattle.limits.specs.Capacity.{most_edges, anchor_room}
use Rattle.stages.specs.declared.anchors.PlacedAnchors.{PlacedAnchors}
use Rattle.stages.specs.Kept.{frames_of, rows_of}
use Rattle.limits.specs.Common.{absent}
use Rattle.stages.specs.Edges.{edge}

-- frames that ascend from `low` to `high`
abbrev pub Climbs : ℕ → ℕ → List ℕ → Type 0
Climbs low high [] = low ≤ high
Climbs low high (frame ∷ frames) = (low ≤ frame) × Climbs frame high frames

unfoldable pub count_below : List ℕ → ℕ → ℕ
count_below [] bound = 0
count_below (frame ∷ frames) bound = let rest = count_below frames bound in cond (ltb frame bound) (suc rest) rest

-- how many frames are below boundary j, or after the boundaries how many there are
abbrev pub place_before : List ℕ → List ℕ → ℕ → ℕ
place_before frames bounds j = count_below frames (edge bounds absent j)

-- the kept anchors in arrays, and the place of each boundary among them
pub record AnchorsPlaced (anchors : List Anchor) (bounds : List ℕ) (arrays : PlacedAnchors) : Type 0 where
  pub framed : arrays.frames ≡ padded (frames_of anchors) anchor_room absent
  pub rowed : arrays.rows ≡ padded (rows_of anchors) anchor_room 0
  pub placed : arrays.places ≡ table_of (place_before arrays.frames bounds) (length bounds + 1) most_edges 0
