-- Numbers of document 01 that every edition shares.
use Rattle.std.specs.Prelude.{ℕ, ◌+◌, ◌-◌, pos, Float}
use Rattle.std.specs.Float.{binary64}
use Rattle.std.specs.Float.Ieee.{of_int}

-- "frame above 4,095"; "else start ≤ end ≤ 4,095"
abbrev pub last_frame : ℕ
last_frame = 4095

-- "4,294,967,295", the highest u32, for a frame or a row that there is none of
abbrev pub absent : ℕ
absent = 4294967295

-- "A unit goes to a later boundary 6 to 80 frames on"
abbrev pub shortest_unit : ℕ
shortest_unit = 6

abbrev pub longest_unit : ℕ
longest_unit = 80

-- "two duration tables of 75 f64 for 6 to 80 frames"
abbrev pub durations : ℕ
durations = longest_unit - shortest_unit + 1

-- "Scores: [..] each within ±1,000,000"; "f32 unvoiced score (±1,000,000)"; "two duration tables [..] each entry from −1,000,000 to 0";
-- and of `rate_s` "default finite and within ±1,000,000"
abbrev pub largest_figure : ℕ
largest_figure = 1000000

-- "f64 `per_frame` and `insertion_llr` (each within ±1,000)"
abbrev pub largest_cost : ℕ
largest_cost = 1000

-- the two as floats, to which a figure is compared: f64 has both exactly
abbrev pub million : Float
million = of_int binary64 (pos largest_figure)

abbrev pub thousand : Float
thousand = of_int binary64 (pos largest_cost)
