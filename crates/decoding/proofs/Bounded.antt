-- An accepted record's phrase keeps to the bounds of its edition, whatever scores and costs it lends; these leave room.
use Prim.Native.Nat.{ℕ, zero, suc, ◌+◌, ◌*◌, ◌≤◌, ◌<◌}
use mathlib.Core.List.{List, [], ◌∷◌}
use mathlib.Core.Option.{none}
use mathlib.Core.Path.{◌≡◌, refl}
use native.Mathlib.Nat.{mul-le-mul}
use native.Mathlib.Omega.{arith}
use lib.Dec.{T}
use lib.ListN.{length, get_or}
use lib.Ieee.{binary64}
use Rattle.limits.specs.Capacity.{most_boundaries, most_anchors}
use Rattle.limits.specs.Inner.Moderate.{Moderate, most_count}
use Rattle.limits.specs.declared.edition.Limits.{Limits}
use Rattle.ieee.specs.Inner.Value.{Within}
use Rattle.ieee.proofs.Magnitude.{within_widens}
use Rattle.phrase.specs.Phrase.{Stage, Candidate}
use Rattle.limits.specs.Common.{shortest_unit, longest_unit, largest_figure, largest_cost}
use Rattle.paths.specs.Passes.{non_empty}
use Rattle.paths.specs.Theory.Bounded.{Bounded, PhraseBounded, step_bound, Room}
use Rattle.record.specs.Layout.{layout_of, limits_of}
use Rattle.record.specs.Refusals.{refusal_of}
use Rattle.record.specs.Meaning.{phrase_of}
use Rattle.record.specs.Inner.Accepted.{CandidateFit, Fit}
use Rattle.decoding.specs.Theory.Ranges.{ranges_of}
use Rattle.record.proofs.Accepted.{fit}
use Rattle.record.proofs.Reading.{nuclei_first, added_next}

-- no step of a moderate edition counts more
abbrev most_step : ℕ
most_step = largest_cost * most_count + largest_cost * most_anchors + 2 * largest_figure

-- however large the numbers of a moderate edition are, its sums are finite
pub room : {l : Limits} → Moderate l → Room (ranges_of l)
room {l} m =
    let step : step_bound (ranges_of l) ≤ most_step = omega (arith, m.frames, m.nuclei) in
    let steps = mul-le-mul {n₂ = most_boundaries} {m₂ = most_step} m.boundaries step in
    record { frames = omega (arith, m.frames); nuclei = omega (arith, m.nuclei); sums = omega (arith, steps, m.frames, m.nuclei) }

some_anchor : (frames : List ℕ) → T (non_empty frames) → 0 < length frames
some_anchor [] t = elim t [ ]
some_anchor (frame ∷ frames) t = omega arith

-- where each column given is below the number of columns, every unit's is, also past the last one, where 0 is read
pub column_below : {columns : ℕ} (given : List ℕ) → 0 < columns → ((unit : ℕ) → unit < length given → get_or given unit 0 < columns)
    → (unit : ℕ) → get_or given unit 0 < columns
column_below [] any below unit = any
column_below (x ∷ xs) any below zero = below zero (omega arith)
column_below (x ∷ xs) any below (suc unit) = column_below xs any (λ i h. below (suc i) (omega arith)) unit

module _ (bytes : List ℕ) (accepted : refusal_of bytes ≡ none) where
  -- an accepted record's phrase fits
  pub phrase_fit : Fit (limits_of bytes) (layout_of bytes).scores.count (phrase_of bytes)
  phrase_fit = fit (record { accepted = accepted; layout = refl })

  -- whatever columns are given, as long as the record has them
  module _ (given : List ℕ) (below : (unit : ℕ) → unit < length given → get_or given unit 0 < (layout_of bytes).scores.count) where
    stage_bounded : (stage : Stage) → length stage.boundaries ≤ (limits_of bytes).boundaries
        → stage.first_row + length stage.anchors ≤ length (phrase_of bytes).nuclei.anchors + length (phrase_of bytes).added.anchors
        → ((frames : ℕ) → shortest_unit ≤ frames → frames ≤ longest_unit
        → Within binary64 (stage.duration frames) (ranges_of (limits_of bytes)).duration)
        → Bounded (ranges_of (limits_of bytes)) (phrase_of bytes) stage given
    stage_bounded stage few rows durations =
        let f = phrase_fit in
        record {
          frames = f.few_frames;
          nuclei = f.nuclei.few_anchors;
          boundaries = few;
          per_frame = f.per_frame;
          insertion = f.insertion;
          unvoiced = within_widens f.unvoiced;
          scores = λ row unit from below_last. within_widens (f.scores row _ (omega arith) (column_below given f.some_column below unit));
          durations = durations;
        }

    pub columns_bounded : PhraseBounded (ranges_of (limits_of bytes)) (phrase_of bytes) given
    columns_bounded =
        let f = phrase_fit in
        record {
          nuclei = stage_bounded (phrase_of bytes).nuclei f.nuclei.few_boundaries (omega (arith, nuclei_first bytes)) f.durations;
          added = λ exists.
              stage_bounded (phrase_of bytes).added f.added.few_boundaries (omega (arith, added_next bytes))
              (f.added_durations (some_anchor (phrase_of bytes).added.anchors exists));
        }

  pub bounded : (c : Candidate) → CandidateFit (limits_of bytes).units (layout_of bytes).scores.count c
      → PhraseBounded (ranges_of (limits_of bytes)) (phrase_of bytes) c.columns
  bounded c fits = columns_bounded c.columns fits.below
