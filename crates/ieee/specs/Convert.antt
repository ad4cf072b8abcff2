-- f64 to f32, document 01, "Spans, marks and order": "llr: the sum clamped to ±1,000,000, then nearest-even to f32."
use Rattle.std.specs.Prelude.{◌*◌, true, false, cond, pos, is_nan, Float}
use Rattle.std.specs.Float.{nan, inf, fin, binary32}
use Rattle.std.specs.Float.Ieee.{up, down, round, lt}

-- "nearest-even to f32": the f32 nearest to a value, a tie to the one with an even last digit. An infinity, a NaN and the sign stay.
unfoldable pub narrowed : Float → Float
narrowed nan = nan
narrowed (inf s) = inf s
narrowed (fin s m e) = round binary32 s (m * up e) (down e)

-- 1,000,000 = 15,625 * 2 ^ 6
abbrev pub highest : Float
highest = fin false 15625 (pos 6)

abbrev pub lowest : Float
lowest = fin true 15625 (pos 6)

-- Clamped to ±1,000,000. NaN, which no sum here is, reads as the lower bound (`clamp_log` of the Rust, which calls it "ruling R12").
unfoldable pub clamped : Float → Float
clamped v = cond (is_nan v) lowest (cond (lt v lowest) lowest (cond (lt highest v) highest v))

-- "the sum clamped to ±1,000,000, then nearest-even to f32"
unfoldable pub clamped_log : Float → Float
clamped_log v = narrowed (clamped v)
