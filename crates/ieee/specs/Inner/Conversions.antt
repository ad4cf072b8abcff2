-- What the functions that convert to f32 promise those that call them: besides the value, that it is a number that f32 holds.
use Rattle.std.specs.Prelude.{◌≡◌, Float}
use Rattle.std.specs.Float.{binary32}
use Rattle.ieee.specs.Inner.Value.{Within}
use Rattle.ieee.specs.Inner.Keys.{Comparable}
use Rattle.ieee.specs.Convert.{narrowed, clamped_log}

-- `narrow`, from x to r
pub record Narrowed (x r : Float) : Type 0 where
  pub value : r ≡ narrowed x
  pub comparable : Comparable binary32 r

-- `clamp_log`, from v to r, which is also within ±1,000,000
pub record ClampedLog (v r : Float) : Type 0 where
  pub value : r ≡ clamped_log v
  pub within : Within binary32 r 1000000
