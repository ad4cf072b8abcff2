-- A problem whose figures and admitted sums are all finite, for paths of up to k units: what the optimality theorem asks of it.
use Rattle.std.specs.Prelude.{ℕ, suc, ◌≤◌, ◌<◌, T}
use Rattle.std.specs.Float.{binary64}
use Rattle.ieee.specs.Inner.Value.{Real}
use Rattle.paths.specs.Problem.{Problem}
use Rattle.paths.specs.Path.{Path, count, value, sum, Admitted}

pub record Finite (q : Problem) (k : ℕ) : Type 0 where
  pub gap_costs : (j : ℕ) → suc j < q.size → Real binary64 (q.gap_cost j)
  pub unit_values : (s i j : ℕ) → s < k → i < j → j < q.size → T (q.unit_ok i j) → Real binary64 (q.unit_value s i j)
  pub stop_costs : (j : ℕ) → j < q.size → Real binary64 (q.stop_cost j)
  pub values : (p : Path) → Admitted q p → count p ≤ k → Real binary64 (value q p)
  pub sums : (p : Path) → Admitted q p → count p ≤ k → Real binary64 (sum q p)
