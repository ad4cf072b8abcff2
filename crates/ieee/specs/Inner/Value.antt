-- A finite value as a difference of two natural numbers, `over` and `under`, of which one is 0: so many times the
-- format's smallest value. The laws of IEEE 754's order and operations in proofs/ are stated over these numbers.
use Rattle.std.specs.Prelude.{ℕ, ◌*◌, ◌/◌, ◌^◌, ◌≤◌, cond, T, Float}
use Rattle.std.specs.Float.{nan, inf, fin, Format}
use Rattle.std.specs.Float.Ieee.{low, fits}
use Rattle.std.specs.Float.Ieee.Scale.{finite}
use Rattle.std.specs.Float.Ieee.Positive.{num, den}

-- how many of the smallest values make 1
unfoldable pub one : Format → ℕ
one f = 2 ^ low f

-- the magnitude of a value that the format holds; no remainder is cut off there
unfoldable pub mag : Format → Float → ℕ
mag f x = num x * one f / den x

-- the magnitude of a positive value, and 0 for any other
unfoldable pub over : Format → Float → ℕ
over f nan = 0
over f (inf s) = 0
over f (fin s m e) = cond s 0 (mag f (fin s m e))

-- the magnitude of a negative value, and 0 for any other
unfoldable pub under : Format → Float → ℕ
under f nan = 0
under f (inf s) = 0
under f (fin s m e) = cond s (mag f (fin s m e)) 0

-- neither a NaN nor an infinity, and a value of the format
pub record Real (f : Format) (x : Float) : Type 0 where
  pub is_finite : T (finite x)
  pub is_held : T (fits f x)

-- a real value from -a to a
pub record Within (f : Format) (x : Float) (a : ℕ) : Type 0 where
  pub real : Real f x
  pub bound : mag f x ≤ a * one f
