-- What a stage, a strictness and a candidate give the search, and nothing else. Boundaries are numbered from 0.
use Rattle.std.specs.Prelude.{ℕ, Bool, Float}

-- `start j` is the value of a path that starts at boundary j; `gap_cost j` what the gap from boundary j to the next one costs;
-- `unit_ok i j` whether a unit may go from boundary i to boundary j; `unit_value s i j` what it adds as unit s, counted from 0;
-- `stop_cost j` what ending at boundary j costs.
pub record Problem : Type 0 where
  pub size : ℕ
  pub start : ℕ → Float
  pub gap_cost : ℕ → Float
  pub unit_ok : ℕ → ℕ → Bool
  pub unit_value : ℕ → ℕ → ℕ → Float
  pub stop_cost : ℕ → Float
