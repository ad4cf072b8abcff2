-- From counts and places to what they stand for: the filler costs between edges.
use Prim.Native.Nat.{ℕ, ◌+◌, ◌≤◌, ◌<◌, ◌^◌}
use mathlib.Core.Path.{◌≡◌, sym, ap, ap₂, ◌∙◌}
use mathlib.Core.List.{List}
use native.Mathlib.Omega.{arith}
use lib.ListN.{length, get_or, length-map}
use lib.Ieee.{neg}
use Rattle.laws.proofs.Numbers.{by_order}
use Rattle.laws.proofs.Listed.{table_at_law, table_same, length_table, length_padded}
use Rattle.laws.specs.Inner.Tables.{padded, table_of}
use Rattle.phrase.specs.declared.costs.Costs.{Costs}
use Rattle.phrase.specs.Filler.{filler_cost}
use Rattle.paths.proofs.Frames.{speech_in_split}
use Rattle.paths.proofs.Rising.{Rising, kept_rising}
use Rattle.paths.specs.Frames.{speech_in}
use Rattle.paths.specs.Anchors.{Anchor, kept_in, held_in}
use Rattle.limits.specs.Capacity.{most_boundaries, most_anchors, most_edges, anchor_room}
use Rattle.limits.specs.Common.{absent}
use Rattle.stages.specs.Edges.{edge, speech_before}
use Rattle.stages.specs.Kept.{frames_of}
use Rattle.stages.specs.declared.anchors.PlacedAnchors.{PlacedAnchors}
use Rattle.stages.specs.declared.stage_tables.FillerCosts.{FillerCosts}
use Rattle.stages.specs.Places.{Climbs, count_below, place_before, AnchorsPlaced}
use Rattle.stages.specs.Filler.{Ascends, stretch, start_at, no_cost, Priced}
use Rattle.stages.specs.Parts.{Fit, FitList, cost_of, Fills}
use Rattle.stages.proofs.Edges.{edge_in, edge_end, edges_climb}
use Rattle.stages.proofs.Places.{below_le, climbs_padded, count_padded}
use Rattle.stages.proofs.Held.{Below, kept_below, kept_climbs, kept_few, held_count, held_on, all_below}

-- What holds of the kept anchors of a list of the record.
pub record Orderly (mask : List ℕ) (anchors : List Anchor) : Type 0 where
  pub below : Below (length mask) anchors
  pub climbs : Climbs 0 absent (frames_of anchors)
  pub rising : Rising 0 anchors
  pub few : length anchors ≤ most_anchors

pub kept_orderly : (mask : List ℕ) (row : ℕ) (frames : List ℕ) → length mask < 2 ^ 32 → FitList most_anchors frames
    → Orderly mask (kept_in mask row frames)
kept_orderly mask row frames h fit = record {
  below = kept_below mask row frames;
  climbs = kept_climbs mask absent 0 row frames (omega arith) (omega arith) fit.ascending (λ _. omega arith);
  rising = kept_rising mask row frames fit.ascending;
  few = omega (arith, kept_few mask row frames, fit.short);
}

-- An array of frames, as the code of places asks it.
module _ {mask : List ℕ} {anchors : List Anchor} {frames : List ℕ} (orderly : Orderly mask anchors)
    (framed : frames ≡ padded (frames_of anchors) anchor_room absent) where
  pub array_climbs : Climbs 0 absent frames
  array_climbs = rw framed (climbs_padded (frames_of anchors) anchor_room 0 absent orderly.climbs)

  place_is : (bound : ℕ) → bound ≤ absent → count_below frames bound ≡ count_below (frames_of anchors) bound
  place_is bound h = ap (λ (l : List ℕ). count_below l bound) framed ∙ count_padded (frames_of anchors) anchor_room absent bound h

  place_le : (bound : ℕ) → bound ≤ absent → count_below frames bound ≤ length anchors
  place_le bound h = omega (arith, place_is bound h, below_le (frames_of anchors) bound, length-map anchors (λ (a : Anchor). a.frame))

  pub array_long : length frames ≡ anchor_room
  array_long =
      ap length framed
      ∙ length_padded (frames_of anchors) anchor_room absent (omega (arith, length-map anchors (λ (a : Anchor). a.frame), orderly.few))

  pub array_ends : count_below frames absent < length frames
  array_ends = omega (arith, place_le absent (omega arith), array_long, orderly.few)

-- The places of the boundaries of a stage, among the kept anchors of a list.
pub record Placing (mask : List ℕ) (anchors : List Anchor) (frames bounds places : List ℕ) : Type 0 where
  pub orderly : Orderly mask anchors
  pub framed : frames ≡ padded (frames_of anchors) anchor_room absent
  pub fit : Fit mask bounds
  pub small : (j : ℕ) → j < length bounds → get_or bounds j 0 ≤ absent
  pub placed : places ≡ table_of (place_before frames bounds) (length bounds + 1) most_edges 0

-- those of listed anchors that are kept and placed
pub kept_placing : (mask : List ℕ) (row : ℕ) (listed : List ℕ) {bounds : List ℕ} {placed : PlacedAnchors} → Fit mask bounds
    → FitList most_anchors listed → ((j : ℕ) → j < length bounds → get_or bounds j 0 < 2 ^ 32) → AnchorsPlaced (kept_in mask row listed) bounds placed
    → Placing mask (kept_in mask row listed) placed.frames bounds placed.places
kept_placing mask row listed fit few small placed = record {
  orderly = kept_orderly mask row listed fit.framed few;
  framed = placed.framed;
  fit = fit;
  small = λ j h. omega (arith, small j h);
  placed = placed.placed;
}

module _ {mask : List ℕ} {anchors : List Anchor} {frames bounds places : List ℕ} (p : Placing mask anchors frames bounds places) where
  table_place : (j : ℕ) → j ≤ length bounds → get_or places j 0 ≡ place_before frames bounds j
  table_place j h =
      ap (λ (l : List ℕ). get_or l j 0) p.placed ∙ table_at_law (place_before frames bounds) (length bounds + 1) most_edges 0 0 j (omega arith)

  pub place_at : (j : ℕ) → j < length bounds → get_or places j 0 ≡ count_below (frames_of anchors) (get_or bounds j 0)
  place_at j h =
      table_place j (omega arith) ∙ ap (count_below frames) (edge_in bounds absent j h)
      ∙ place_is p.orderly p.framed (get_or bounds j 0) (p.small j h)

  -- the count before an edge is that of the anchors held from the start up to it
  held_at : (j : ℕ) → j ≤ length bounds → get_or places j 0 ≡ length (held_in anchors 0 (edge bounds (length mask) j))
  held_at j h = by_order j (length bounds) inside outside
    where
      inside : j < length bounds → get_or places j 0 ≡ length (held_in anchors 0 (edge bounds (length mask) j))
      inside k =
          place_at j k ∙ sym (held_count anchors (get_or bounds j 0))
          ∙ ap (λ (b : ℕ). length (held_in anchors 0 b)) (sym (edge_in bounds (length mask) j k))

      outside : length bounds ≤ j → get_or places j 0 ≡ length (held_in anchors 0 (edge bounds (length mask) j))
      outside k =
          let e : j ≡ length bounds = omega arith in
          table_place j h ∙ ap (λ (n : ℕ). count_below frames (edge bounds absent n)) e ∙ ap (count_below frames) (edge_end bounds absent)
          ∙ place_is p.orderly p.framed absent (omega arith)
          ∙ all_below anchors (length mask) absent p.orderly.below (omega (arith, p.fit.framed))
          ∙ sym (all_below anchors (length mask) (length mask) p.orderly.below (omega arith))
          ∙ sym (held_count anchors (length mask))
          ∙ ap (λ (b : ℕ). length (held_in anchors 0 b))
          (sym (ap (λ (n : ℕ). edge bounds (length mask) n) e ∙ edge_end bounds (length mask)))

  -- from edge to edge
  held_between : (i j : ℕ) → i ≤ j → j ≤ length bounds
      → get_or places j 0 ≡ get_or places i 0 + length (held_in anchors (edge bounds (length mask) i) (edge bounds (length mask) j))
  held_between i j h k =
      held_at j k
      ∙ held_on anchors (length mask) (edge bounds (length mask) i) (edge bounds (length mask) j) p.orderly.below
      (edges_climb bounds (length mask) p.fit.listed.ascending i j h k)
      ∙ ap (λ (n : ℕ). n + length (held_in anchors (edge bounds (length mask) i) (edge bounds (length mask) j)))
      (sym (held_at i (omega arith)))

  pub places_long : length places ≡ most_edges
  places_long =
      ap length p.placed
      ∙ length_table (place_before frames bounds) (length bounds + 1) most_edges 0 (omega (arith, p.fit.listed.short))

  pub places_ascend : Ascends places (length bounds)
  places_ascend i j h k = record {
    lower = omega (arith, places_long, p.fit.listed.short);
    upper = omega (arith, places_long, p.fit.listed.short);
    rise = omega (arith, held_between i j h k);
  }

  pub place_few : (j : ℕ) → j < length bounds → get_or places j 0 ≤ length anchors
  place_few j h = omega (arith, place_at j h, below_le (frames_of anchors) (get_or bounds j 0), length-map anchors (λ (a : Anchor). a.frame))

  -- The filler costs by the counts.
  module _ {speech : List ℕ} (counted : speech ≡ table_of (speech_before mask bounds) (length bounds + 1) most_edges 0) where
    speech_at : (j : ℕ) → j ≤ length bounds → get_or speech j 0 ≡ speech_in mask 0 (edge bounds (length mask) j)
    speech_at j h =
        ap (λ (l : List ℕ). get_or l j 0) counted ∙ table_at_law (speech_before mask bounds) (length bounds + 1) most_edges 0 0 j (omega arith)

    speech_between : (i j : ℕ) → i ≤ j → j ≤ length bounds
        → get_or speech j 0 ≡ get_or speech i 0 + speech_in mask (edge bounds (length mask) i) (edge bounds (length mask) j)
    speech_between i j h k =
        speech_at j k
        ∙ speech_in_split mask 0 (edge bounds (length mask) i) (edge bounds (length mask) j) (omega arith)
        (edges_climb bounds (length mask) p.fit.listed.ascending i j h k)
        ∙ ap (λ (n : ℕ). n + speech_in mask (edge bounds (length mask) i) (edge bounds (length mask) j)) (sym (speech_at i (omega arith)))

    speech_long : length speech ≡ most_edges
    speech_long =
        ap length counted ∙ length_table (speech_before mask bounds) (length bounds + 1) most_edges 0 (omega (arith, p.fit.listed.short))

    pub speech_ascends : Ascends speech (length bounds)
    speech_ascends i j h k = record {
      lower = omega (arith, speech_long, p.fit.listed.short);
      upper = omega (arith, speech_long, p.fit.listed.short);
      rise = omega (arith, speech_between i j h k);
    }

    stretch_is : (costs : Costs) (i j : ℕ) → i ≤ j → j ≤ length bounds
        → stretch costs speech places i j ≡ cost_of costs mask anchors (edge bounds (length mask) i) (edge bounds (length mask) j)
    unfolding cost_of
    stretch_is costs i j h k = ap₂ (filler_cost costs) (omega (arith, speech_between i j h k)) (omega (arith, held_between i j h k))

    pub fills : {costs : Costs} {filler : FillerCosts} → Priced costs speech places (length bounds) (length bounds) filler
        → Fills costs mask anchors bounds filler
    unfolding cost_of
    fills {costs} priced = record {
      started =
          priced.started
          ∙ table_same (start_at costs speech places) (λ j. neg (cost_of costs mask anchors 0 (edge bounds (length mask) j)))
          (length bounds) most_boundaries no_cost
          (λ j h. ap₂ (λ (s n : ℕ). neg (filler_cost costs s n)) (speech_at j (omega arith)) (held_at j (omega arith)));
      gapped = priced.gapped
          ∙ table_same (λ j. stretch costs speech places j (j + 1))
          (λ j. cost_of costs mask anchors (edge bounds (length mask) j) (edge bounds (length mask) (j + 1)))
          (length bounds) most_boundaries no_cost (λ j h. stretch_is costs j (j + 1) (omega arith) (omega arith));
      stopped = priced.stopped
          ∙ table_same (λ j. stretch costs speech places j (length bounds))
          (λ j. cost_of costs mask anchors (edge bounds (length mask) j) (length mask)) (length bounds) most_boundaries no_cost
          (λ j h.
          stretch_is costs j (length bounds) (omega arith) (omega arith)
          ∙ ap (λ (b : ℕ). cost_of costs mask anchors (edge bounds (length mask) j) b) (edge_end bounds (length mask)));
    }
