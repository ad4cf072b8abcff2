-- The tables made of the parts of a record.
use Rattle.std.specs.Prelude.{ℕ, ◌+◌, List, length, get_or, Float}
use Rattle.std.specs.Float.Ieee.{neg}
use Rattle.laws.specs.Listed.{listed}
use Rattle.laws.specs.Inner.Tables.{table_of}
use Rattle.phrase.specs.declared.costs.Costs.{Costs}
use Rattle.paths.specs.Anchors.{kept_in}
use Rattle.paths.specs.declared.passes.Strictness.TheVariants.{Strict, Relaxed}
use Rattle.paths.specs.Inner.Ranges.{low_origin, origins_end, first_reached, row_before}
use Rattle.limits.specs.Capacity.{most_boundaries, unit_counts}
use Rattle.stages.specs.Tables.{StageTables}
use Rattle.stages.specs.Edges.{edge}
use Rattle.stages.specs.Filler.{no_cost}
use Rattle.stages.specs.Parts.{cost_of}

-- every entry of the tables, the spare ones too
unfoldable pub tables_of : List ℕ → List ℕ → List ℕ → ℕ → List ℕ → List Float → Costs → StageTables
tables_of mask nuclei anchors first_row bounds duration costs =
    let end = length mask in
    let size = length bounds in
    let inserted = kept_in mask 0 nuclei in
    let kept = kept_in mask first_row anchors in
    record {
      size = size;
      bounds = table_of (λ j. get_or bounds j 0) size most_boundaries 0;
      start = table_of (λ j. neg (cost_of costs mask inserted 0 (edge bounds end j))) size most_boundaries no_cost;
      gap = table_of (λ j. cost_of costs mask inserted (edge bounds end j) (edge bounds end (j + 1))) size most_boundaries no_cost;
      stop = table_of (λ j. cost_of costs mask inserted (edge bounds end j) end) size most_boundaries no_cost;
      low = table_of (low_origin kept bounds) size most_boundaries 0;
      middle = table_of (origins_end Strict kept bounds) size most_boundaries 0;
      high = table_of (origins_end Relaxed kept bounds) size most_boundaries 0;
      row = table_of (λ j. row_before 0 kept (get_or bounds j 0)) size most_boundaries 0;
      since_strict = listed (first_reached (low_origin kept bounds) (origins_end Strict kept bounds) size) unit_counts;
      since_relaxed = listed (first_reached (low_origin kept bounds) (origins_end Relaxed kept bounds) size) unit_counts;
      duration = duration;
    }
