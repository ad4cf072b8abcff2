-- An f64 beside the whole number that it stands for: how large it may be, and how far it may lie from the exact value.
use Rattle.std.specs.Prelude.{ℕ, ◌+◌, ◌*◌, ◌^◌, ◌≤◌, ℤ, neg_ℤ, Float}
use Rattle.std.specs.Float.{binary64}
use Rattle.std.specs.Float.Ieee.{prec}
use Rattle.ieee.specs.Inner.Value.{Within}
use Rattle.exact.specs.Apart.{above}
use Rattle.exact.specs.Scaled.{scaled}

-- how far a number is below 0, and 0 if it is not
abbrev pub below : ℤ → ℕ
below a = above (neg_ℤ a)

-- Half the last place of an f64 just below 2 ^ v: 2 ^ (v - 54), which is 2 ^ (v + 1021) parts. A result below 2 ^ v is rounded by no more.
unfoldable pub half_place : ℕ → ℕ
half_place v = 2 ^ (v + 1021)

-- an operation whose result is below 2 ^ v errs by at most `extra` grains
pub record Errs (grain v extra : ℕ) : Type 0 where
  pub digits : v ≤ prec binary64
  pub place : half_place v ≤ extra * grain

-- x is at most `bound` in size, and lies at most `error` grains, of `grain` parts each, from z
pub record Close (grain : ℕ) (x : Float) (z : ℤ) (bound error : ℕ) : Type 0 where
  pub within : Within binary64 x bound
  pub high : above (scaled x) + below z ≤ above z + below (scaled x) + error * grain
  pub low : above z + below (scaled x) ≤ above (scaled x) + below z + error * grain
