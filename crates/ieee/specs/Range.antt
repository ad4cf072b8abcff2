-- Ranges as IEEE 754 compares, the ends included and the two zeros equal: document 01's "a float not finite or outside its range"
-- is one for which the test fails. Of a NaN every comparison is false.
use Rattle.std.specs.Prelude.{Bool, ◌&&◌, Float}
use Rattle.std.specs.Float.Ieee.{neg, le}

-- lo ≤ x ≤ hi, as "from −1,000,000 to 0 (either zero)"
abbrev pub between : Float → Float → Float → Bool
between lo hi x = le lo x && le x hi

-- -limit ≤ x ≤ limit, as "within ±1,000,000"
abbrev pub within : Float → Float → Bool
within limit x = between (neg limit) limit x
