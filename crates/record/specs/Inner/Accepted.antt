-- What every accepted record has: the bounds that decoding goes by, over what the record means.
use Rattle.std.specs.Prelude.{ℕ, ◌+◌, ◌≤◌, ◌<◌, List, ◌≡◌, length, get_or}
use Rattle.std.proofs.Math.Option.{none}
use Rattle.std.specs.Float.{binary32, binary64}
use Rattle.ieee.specs.Inner.Value.{Within}
use Rattle.phrase.specs.Phrase.{Phrase, Stage, Candidate, spoken}
use Rattle.record.specs.Layout.{layout_of}
use Rattle.limits.specs.Common.{last_frame, shortest_unit, longest_unit, largest_figure, largest_cost}
use Rattle.record.specs.Refusals.{refusal_of}
use Rattle.limits.specs.declared.edition.Limits.{Limits}
use Rattle.record.specs.declared.layout.Layout.{Layout}

-- A record that no rule of its own refuses, with its layout: what the readers of a record ask.
pub record Laid (bytes : List ℕ) (at : Layout) : Type 0 where
  pub accepted : refusal_of bytes ≡ none
  pub layout : at ≡ layout_of bytes

-- a list of frames: strictly increasing, none above 4,095
pub record Frames (frames : List ℕ) : Type 0 where
  pub rising : (i j : ℕ) → i < j → j < length frames → get_or frames i 0 < get_or frames j 0
  pub last : (i : ℕ) → i < length frames → get_or frames i 0 ≤ last_frame

-- a stage's two lists, of at most so many anchors and boundaries
pub record StageFit (anchors_most boundaries_most : ℕ) (stage : Stage) : Type 0 where
  pub few_anchors : length stage.anchors ≤ anchors_most
  pub few_boundaries : length stage.boundaries ≤ boundaries_most
  pub anchors : Frames stage.anchors
  pub boundaries : Frames stage.boundaries

-- a candidate's units, of which there are at most so many, with columns below the number of columns
pub record CandidateFit (units_most columns : ℕ) (candidate : Candidate) : Type 0 where
  pub some_unit : 0 < length candidate.columns
  pub few_units : length candidate.columns ≤ units_most
  pub below : (j : ℕ) → j < length candidate.columns → get_or candidate.columns j 0 < columns

-- The phrase of an accepted record with so many columns. An f32 figure is also within the same bound as an f64.
pub record Fit (l : Limits) (columns : ℕ) (phrase : Phrase) : Type 0 where
  pub few_frames : length phrase.mask ≤ l.frames
  pub mask : (i : ℕ) → i < length phrase.mask → get_or phrase.mask i 0 ≤ 1
  pub nuclei : StageFit l.nuclei l.boundaries phrase.nuclei
  pub added : StageFit l.anchors l.boundaries phrase.added
  pub nothing_added : length phrase.added.anchors ≡ 0 → length phrase.added.boundaries ≡ 0
  pub speech : (start end : ℕ) → phrase.speech ≡ spoken start end → (start ≤ end) × (end ≤ last_frame)
  pub some_column : 0 < columns
  pub few_columns : columns ≤ l.columns
  pub scores : (row column : ℕ) → row < length phrase.nuclei.anchors + length phrase.added.anchors → column < columns → Within binary32 (phrase.score row column) largest_figure
  pub per_frame : Within binary64 phrase.costs.per_frame largest_cost
  pub insertion : Within binary64 phrase.costs.insertion_llr largest_cost
  pub unvoiced : Within binary32 phrase.costs.unvoiced largest_figure
  pub durations : (frames : ℕ) → shortest_unit ≤ frames → frames ≤ longest_unit → Within binary64 (phrase.nuclei.duration frames) largest_figure
  pub added_durations : 0 < length phrase.added.anchors → (frames : ℕ) → shortest_unit ≤ frames → frames ≤ longest_unit → Within binary64 (phrase.added.duration frames) largest_figure
  pub some_candidate : 0 < length phrase.candidates
  pub few_candidates : length phrase.candidates ≤ l.candidates
  pub candidates : (i : ℕ) (other : Candidate) → i < length phrase.candidates → CandidateFit l.units columns (get_or phrase.candidates i other)
  pub distinct : (i j : ℕ) (other : Candidate) → i < j → j < length phrase.candidates → (get_or phrase.candidates i other).id ≡ (get_or phrase.candidates j other).id → ⊥
