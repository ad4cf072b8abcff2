-- Worked examples, by computation of the definitions. Document 01, "Proved as a group": "1000000.5 narrows to 49742400", which is
-- `clamp_log`; narrowed alone it is 49742408. Then the borders of narrowing, as bit patterns.
use Rattle.std.proofs.Common.{◌≡◌, ℕ, true, false, pos, negsuc, refl}
use lib.Ieee.{Float, fin, binary32, binary64, of_int, of_bits, to_bits, round, lt, eq, is_nan}
use Rattle.ieee.specs.Convert.{narrowed, lowest, highest, clamped, clamped_log}
use Rattle.ieee.specs.TotalOrder.{total_before}
use Rattle.ieee.specs.Inner.Keys.{key_of_bits, total_key}

-- the bounds of the clamp
upper_bound : highest ≡ of_int binary64 (pos 1000000)
unfolding of_int
upper_bound = refl

lower_bound : lowest ≡ of_int binary64 (negsuc 999999)
unfolding of_int
lower_bound = refl

-- 1,000,000.5 = 2,000,001 / 2
abbrev pub just_over_a_million : Float
just_over_a_million = fin false 2000001 (negsuc 0)

pub clamped_to_a_million : to_bits binary32 (clamped_log just_over_a_million) ≡ 0x49742400
unfolding clamped_log clamped narrowed is_nan lt round to_bits
clamped_to_a_million = refl

narrowed_alone : to_bits binary32 (narrowed just_over_a_million) ≡ 0x49742408
unfolding narrowed round to_bits
narrowed_alone = refl

-- ---- the f32 pattern that an f64 pattern narrows to
unfoldable narrows : ℕ → ℕ
unfolding narrowed round of_bits to_bits
narrows b = to_bits binary32 (narrowed (of_bits binary64 b))

-- 1 + 2 ^ -24 lies between 1 and the next f32, and the even one is below; 1 + 3 * 2 ^ -24 has it above
tie_down : narrows 0x3ff0000010000000 ≡ 0x3f800000
unfolding narrows
tie_down = refl

tie_up : narrows 0x3ff0000030000000 ≡ 0x3f800002
unfolding narrows
tie_up = refl

-- the largest subnormal f32, the smallest normal one, and the tie between them, which carries into the exponent
largest_subnormal : narrows 0x380fffffc0000000 ≡ 0x007fffff
unfolding narrows
largest_subnormal = refl

carried : narrows 0x380fffffe0000000 ≡ 0x00800000
unfolding narrows
carried = refl

smallest_normal : narrows 0x3810000000000000 ≡ 0x00800000
unfolding narrows
smallest_normal = refl

-- half of the smallest f32 is a tie to zero, with its sign, and the next f64 above it is not
half_of_smallest : narrows 0xb690000000000000 ≡ 0x80000000
unfolding narrows
half_of_smallest = refl

above_half : narrows 0x3690000000000001 ≡ 1
unfolding narrows
above_half = refl

-- half a step above the largest f32 is an infinity, and the f64 below that is not
overflows : narrows 0x47effffff0000000 ≡ 0x7f800000
unfolding narrows
overflows = refl

largest : narrows 0x47efffffefffffff ≡ 0x7f7fffff
unfolding narrows
largest = refl

-- ---- -0 comes before +0, by one
zeros : total_before (of_bits binary32 0x80000000) (of_bits binary32 0) ≡ true
unfolding total_before of_bits lt eq
zeros = refl

key_below_zero : total_key binary32 (of_bits binary32 0x80000000) ≡ 0x7fffffff
unfolding key_of_bits of_bits to_bits
key_below_zero = refl

key_of_zero : total_key binary32 (of_bits binary32 0) ≡ 0x80000000
unfolding key_of_bits of_bits to_bits
key_of_zero = refl
