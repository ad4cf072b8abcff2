-- What an operation's result is: the exact result, rounded once to the nearest value of the format, a tie to the even one.
use Rattle.std.specs.Prelude.{◌≡◌, ℕ, ◌-◌, ◌*◌, ◌^◌, ◌<◌, T, Float}
use Rattle.std.specs.Float.{Format}
use Rattle.std.specs.Float.Ieee.{prec, fits}
use Rattle.std.specs.Float.Ieee.Order.{kept, drop}
use Rattle.std.specs.Float.Ieee.Scale.{finite, overflow}
use Rattle.ieee.specs.Inner.Value.{over, under}

-- n / c of the format's smallest values, rounded: of its whole part the format keeps the leading digits and drops the others
unfoldable pub rounding : Format → ℕ → ℕ → ℕ
rounding f n c = kept (prec f) n c * 2 ^ drop (prec f) n c

-- r is p / c - n / c, rounded: from `overflow` on it is no finite value
pub record Result (f : Format) (r : Float) (p n c : ℕ) : Type 0 where
  pub held : T (fits f r)
  pub above : T (finite r) → over f r ≡ rounding f (p - n) c
  pub below : T (finite r) → under f r ≡ rounding f (n - p) c
  pub reached : rounding f (p - n) c < overflow f → rounding f (n - p) c < overflow f → T (finite r)
