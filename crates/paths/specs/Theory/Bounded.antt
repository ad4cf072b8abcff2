-- Whole-number bounds on the figures of a phrase, from which all its sums are finite. The bounds are
-- parameters that have to leave room, since an f64 counts whole numbers without a gap up to 2 ^ 53.
use Rattle.std.specs.Prelude.{ℕ, suc, ◌+◌, ◌*◌, ◌^◌, ◌≤◌, ◌<◌, List, T, length, get_or}
use Rattle.std.specs.Float.{binary64}
use Rattle.std.specs.Float.Ieee.{prec}
use Rattle.ieee.specs.Inner.Value.{Within}
use Rattle.phrase.specs.Phrase.{Phrase, Stage}
use Rattle.paths.specs.Problem.{Problem}
use Rattle.limits.specs.Common.{shortest_unit, longest_unit}
use Rattle.paths.specs.Passes.{non_empty}

-- The figures of a problem: starts and ends up to `edge`, gaps and units up to `step`. Each step goes to a later boundary, so
-- that a path has fewer than `size` of them.
pub record Figures (q : Problem) (edge step : ℕ) : Type 0 where
  pub starts : (i : ℕ) → i < q.size → Within binary64 (q.start i) edge
  pub gaps : (i : ℕ) → suc i < q.size → Within binary64 (q.gap_cost i) step
  pub units : (unit i j : ℕ) → i < j → j < q.size → T (q.unit_ok i j) → Within binary64 (q.unit_value unit i j) step
  pub stops : (i : ℕ) → i < q.size → Within binary64 (q.stop_cost i) edge
  pub room : edge + q.size * step + edge ≤ 2 ^ prec binary64

-- how many frames, nuclei and boundaries there may be, and how large each figure
pub record Ranges : Type 0 where
  pub frames : ℕ
  pub nuclei : ℕ
  pub boundaries : ℕ
  pub per_frame : ℕ
  pub insertion : ℕ
  pub score : ℕ
  pub duration : ℕ

-- the bound on a filler cost
abbrev pub filler_bound : Ranges → ℕ
filler_bound most = most.per_frame * most.frames + most.insertion * most.nuclei

-- the bound on a step: a gap or a unit
abbrev pub step_bound : Ranges → ℕ
step_bound most = filler_bound most + (most.score + most.duration)

-- There is room for them.
pub record Room (most : Ranges) : Type 0 where
  pub frames : most.frames ≤ 2 ^ prec binary64
  pub nuclei : most.nuclei ≤ 2 ^ prec binary64
  pub sums : filler_bound most + most.boundaries * step_bound most + filler_bound most ≤ 2 ^ prec binary64

-- A stage of a phrase and a candidate's columns keep to the ranges.
pub record Bounded (most : Ranges) (phrase : Phrase) (stage : Stage) (columns : List ℕ) : Type 0 where
  pub frames : length phrase.mask ≤ most.frames
  pub nuclei : length phrase.nuclei.anchors ≤ most.nuclei
  pub boundaries : length stage.boundaries ≤ most.boundaries
  pub per_frame : Within binary64 phrase.costs.per_frame most.per_frame
  pub insertion : Within binary64 phrase.costs.insertion_llr most.insertion
  pub unvoiced : Within binary64 phrase.costs.«unvoiced» most.score
  pub scores : (row unit : ℕ) → stage.first_row ≤ row → row < stage.first_row + length stage.anchors
      → Within binary64 (phrase.score row (get_or columns unit 0)) most.score
  pub durations : (frames : ℕ) → shortest_unit ≤ frames → frames ≤ longest_unit → Within binary64 (stage.duration frames) most.duration

-- Every stage that a pass searches keeps to them: the nuclei's, and the added one where it exists.
pub record PhraseBounded (most : Ranges) (phrase : Phrase) (columns : List ℕ) : Type 0 where
  pub nuclei : Bounded most phrase phrase.nuclei columns
  pub added : T (non_empty phrase.added.anchors) → Bounded most phrase phrase.added columns
