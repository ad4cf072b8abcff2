-- The filler costs between edges, from the counts before each edge.
use Rattle.std.specs.Prelude.{ℕ, ◌+◌, ◌-◌, ◌≤◌, ◌<◌, ◌≡◌, List, length, get_or, Float}
use Rattle.std.specs.Float.{binary64}
use Rattle.std.specs.Float.Ieee.{of_bits, neg}
use Rattle.laws.specs.Inner.Tables.{table_of}
use Rattle.phrase.specs.declared.costs.Costs.{Costs}
use Rattle.phrase.specs.Filler.{filler_cost}
use Rattle.limits.specs.Capacity.{most_boundaries}
use Rattle.stages.specs.declared.stage_tables.FillerCosts.{FillerCosts}

-- The count before edge j is not below that before edge i.
pub record Rises (counts : List ℕ) (i j : ℕ) : Type 0 where
  pub lower : i < length counts
  pub upper : j < length counts
  pub rise : get_or counts i 0 ≤ get_or counts j 0

-- counts that do not fall up to the edge `last`
abbrev pub Ascends : List ℕ → ℕ → Type 0
Ascends counts last = (i j : ℕ) → i ≤ j → j ≤ last → Rises counts i j

-- both counts, before n boundaries and the edge after them
abbrev pub Counts : List ℕ → List ℕ → ℕ → Type 0
Counts speech nuclei n = Ascends speech n × Ascends nuclei n

-- the cost of the stretch from edge i to edge j
abbrev pub stretch : Costs → List ℕ → List ℕ → ℕ → ℕ → Float
stretch costs speech nuclei i j = filler_cost costs (get_or speech j 0 - get_or speech i 0) (get_or nuclei j 0 - get_or nuclei i 0)

-- the value of a start at edge j
abbrev pub start_at : Costs → List ℕ → List ℕ → ℕ → Float
start_at costs speech nuclei j = neg (filler_cost costs (get_or speech j 0) (get_or nuclei j 0))

-- 0.0, which stands in the spare entries
abbrev pub no_cost : Float
no_cost = of_bits binary64 0

-- the costs at the first `done` boundaries, where the edge `last` is the mask's end
pub record Priced (costs : Costs) (speech nuclei : List ℕ) (last done : ℕ) (filler : FillerCosts) : Type 0 where
  pub started : filler.start ≡ table_of (start_at costs speech nuclei) done most_boundaries no_cost
  pub gapped : filler.gap ≡ table_of (λ j. stretch costs speech nuclei j (j + 1)) done most_boundaries no_cost
  pub stopped : filler.stop ≡ table_of (λ j. stretch costs speech nuclei j last) done most_boundaries no_cost
