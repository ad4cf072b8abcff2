-- The last count of units that reaches a boundary.
use Rattle.std.specs.Prelude.{ℕ, ◌+◌, ◌≤◌, ◌<◌}

-- `first` has the first boundary that each count of units reaches, and n stands for none. A count reaches one and, below the cap, the next
-- count none.
pub record LastReached (first : ℕ → ℕ) (n cap units : ℕ) : Type 0 where
  pub capped : units ≤ cap
  pub reaches : first units < n
  pub ends : units < cap → n ≤ first (units + 1)
