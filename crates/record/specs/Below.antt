-- The numbers below a count: whether a test holds at one of them.
use Rattle.std.specs.Prelude.{ℕ, zero, suc, Bool, false, ◌||◌}

unfoldable pub any_below : (ℕ → Bool) → ℕ → Bool
any_below p zero = false
any_below p (suc n) = any_below p n || p n
