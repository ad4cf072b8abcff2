-- What a test of a range on bits answers.
use Rattle.std.specs.Prelude.{◌≡◌, ℕ, Bool, false, T, from_bits, Float}
use Rattle.std.specs.Float.{Format}
use Rattle.std.specs.Float.Ieee.{nan_bits}

-- What a range test on the bits of a float answers. Bits that pass are no NaN's, so they may be read as a float.
pub record RangeTest (f : Format) (range : Float → Bool) (bits : ℕ) (r : Bool) : Type 0 where
  pub answer : r ≡ range (from_bits f bits)
  pub not_nan : T r → nan_bits f bits ≡ false
