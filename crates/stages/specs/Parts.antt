-- What the parts of a stage's tables hold, and what is asked of the lists that they are made from.
use Rattle.std.specs.Prelude.{ℕ, ◌+◌, ◌≤◌, ◌<◌, ◌^◌, ◌≡◌, List, length, get_or, Float}
use Rattle.std.specs.Float.Ieee.{neg}
use Rattle.laws.specs.Listed.{listed}
use Rattle.laws.specs.Inner.Tables.{table_of}
use Rattle.phrase.specs.declared.costs.Costs.{Costs}
use Rattle.phrase.specs.Filler.{filler_cost}
use Rattle.paths.specs.Frames.{speech_in}
use Rattle.paths.specs.Inner.Order.{Increasing}
use Rattle.paths.specs.Anchors.{Anchor, held_in}
use Rattle.paths.specs.declared.passes.Strictness.TheVariants.{Strict, Relaxed}
use Rattle.paths.specs.Inner.Ranges.{low_origin, origins_end, first_reached, row_before}
use Rattle.limits.specs.Capacity.{most_boundaries, unit_counts}
use Rattle.stages.specs.declared.stage_tables.FillerCosts.{FillerCosts}
use Rattle.stages.specs.declared.stage_tables.StageWords.{StageWords}
use Rattle.stages.specs.Edges.{edge}
use Rattle.stages.specs.Filler.{no_cost}

-- a list of a record, of anchors or of boundaries: no more than there is room for, and in order
pub record FitList (most : ℕ) (frames : List ℕ) : Type 0 where
  pub short : length frames ≤ most
  pub ascending : Increasing frames

pub record Fit (mask bounds : List ℕ) : Type 0 where
  pub framed : length mask < 2 ^ 32
  pub listed : FitList most_boundaries bounds

-- the filler cost of the frames from..to, by the record's kept nuclei
unfoldable pub cost_of : Costs → List ℕ → List Anchor → ℕ → ℕ → Float
cost_of costs mask nuclei from to = filler_cost costs (speech_in mask from to) (length (held_in nuclei from to))

-- The filler costs: of the start (negated), of the gap to the next edge, of the end.
pub record Fills (costs : Costs) (mask : List ℕ) (nuclei : List Anchor) (bounds : List ℕ) (filler : FillerCosts) : Type 0 where
  pub started : filler.start ≡ table_of (λ j. neg (cost_of costs mask nuclei 0 (edge bounds (length mask) j))) (length bounds) most_boundaries no_cost
  pub gapped : filler.gap
      ≡ table_of (λ j. cost_of costs mask nuclei (edge bounds (length mask) j) (edge bounds (length mask) (j + 1)))
      (length bounds) most_boundaries no_cost
  pub stopped : filler.stop
      ≡ table_of (λ j. cost_of costs mask nuclei (edge bounds (length mask) j) (length mask)) (length bounds) most_boundaries no_cost

-- The words that the search reads, by the kept anchors of the stage.
pub record Searched (anchors : List Anchor) (bounds : List ℕ) (words : StageWords) : Type 0 where
  pub bounded : words.bounds ≡ table_of (λ j. get_or bounds j 0) (length bounds) most_boundaries 0
  pub lows : words.origins.low ≡ table_of (low_origin anchors bounds) (length bounds) most_boundaries 0
  pub middles : words.origins.ends.strict ≡ table_of (origins_end Strict anchors bounds) (length bounds) most_boundaries 0
  pub highs : words.origins.ends.relaxed ≡ table_of (origins_end Relaxed anchors bounds) (length bounds) most_boundaries 0
  pub ranks : words.rows ≡ table_of (λ j. row_before 0 anchors (get_or bounds j 0)) (length bounds) most_boundaries 0
  pub strict : words.since.strict
      ≡ listed (first_reached (low_origin anchors bounds) (origins_end Strict anchors bounds) (length bounds)) unit_counts
  pub relaxed : words.since.relaxed
      ≡ listed (first_reached (low_origin anchors bounds) (origins_end Relaxed anchors bounds) (length bounds)) unit_counts
