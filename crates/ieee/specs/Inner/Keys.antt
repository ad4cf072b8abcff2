-- Keys by which code compares in the total order.
use Rattle.std.specs.Prelude.{ℕ, ◌+◌, ◌-◌, ◌*◌, cond, not, T, is_nan, nat_lt, to_bits, Float}
use Rattle.std.specs.Float.{Format}
use Rattle.std.specs.Float.Ieee.{fits, top}

-- what is compared: a value that the format holds, and no NaN
pub record Comparable (f : Format) (x : Float) : Type 0 where
  pub held : T (fits f x)
  pub number : T (not (is_nan x))

-- The number of a pattern: above all negative ones, or, with the sign set, counted down from there.
unfoldable pub key_of_bits : Format → ℕ → ℕ
key_of_bits f bits = cond (nat_lt bits (top f)) (bits + top f) (2 * top f - 1 - bits)

-- The number of a value: that of its pattern.
abbrev pub total_key : Format → Float → ℕ
total_key f x = key_of_bits f (to_bits f x)
