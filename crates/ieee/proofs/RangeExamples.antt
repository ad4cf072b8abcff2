-- The definitions at single values, worked out. Assumes nothing.
use Rattle.std.proofs.Common.{◌≡◌, ℕ, suc, ◌+◌, ◌*◌, ◌^◌, Bool, true, false, refl, not-le_of_lt, lit<}
use lib.Ieee.{Float, nan, inf, binary32, binary64, neg, le, of_bits, fits, top}
use Rattle.ieee.specs.Inner.Value.{one, mag, over, under, Within}
use Rattle.ieee.specs.Theory.Rounded.{rounding}
use Rattle.ieee.specs.Range.{between, within}
use Rattle.ieee.proofs.Magnitude.{literal_within}

-- the bits of 1000000
million : ℕ
million = 0x412E_8480_0000_0000

-- the values of these bits, of the next larger, and of the smallest positive value
limit : Float
limit = of_bits binary64 million

beyond : Float
beyond = of_bits binary64 (suc million)

tiny : Float
tiny = of_bits binary64 1

ends_in_law : (within limit limit ≡ true) × (within limit (neg limit) ≡ true) × (within limit (neg tiny) ≡ true)
unfolding limit million tiny of_bits neg le
ends_in_law = (refl, refl, refl)

beyond_out : (within limit beyond ≡ false) × (within limit (neg beyond) ≡ false)
unfolding limit beyond million of_bits neg le
beyond_out = (refl, refl)

never_in : (within limit nan ≡ false) × (within limit (inf false) ≡ false) × (within limit (inf true) ≡ false)
unfolding limit million of_bits neg le
never_in = (refl, refl, refl)

-- from -1000000 up to either zero and no further
nonpositive : Float → Bool
nonpositive x = between (neg limit) (of_bits binary64 0) x

zeros_in : (nonpositive (of_bits binary64 0) ≡ true) × (nonpositive (of_bits binary64 (top binary64)) ≡ true) × (nonpositive (neg limit) ≡ true)
unfolding nonpositive limit million of_bits neg le
zeros_in = (refl, refl, refl)

positive_out : (nonpositive tiny ≡ false) × (nonpositive (neg beyond) ≡ false)
unfolding nonpositive limit beyond million tiny of_bits neg le
positive_out = (refl, refl)

-- 1.5 and -1.5 in binary32
plus : (over binary32 (of_bits binary32 0x3FC0_0000) * 2 ≡ 3 * one binary32) × (under binary32 (of_bits binary32 0x3FC0_0000) ≡ 0)
unfolding of_bits over under mag one
plus = (refl, refl)

minus : (over binary32 (of_bits binary32 0xBFC0_0000) ≡ 0) × (under binary32 (of_bits binary32 0xBFC0_0000) * 2 ≡ 3 * one binary32)
unfolding of_bits over under mag one
minus = (refl, refl)

-- the smallest positive value is the unit
unit : mag binary64 tiny ≡ 1
unfolding tiny of_bits mag one
unit = refl

-- binary32 keeps 24 digits: of two values that are as near, the one with the even last digit
ties : (rounding binary32 (2 ^ 24 + 1) 1 ≡ 2 ^ 24) × (rounding binary32 (2 ^ 24 + 3) 1 ≡ 2 ^ 24 + 4) × (rounding binary32 (2 ^ 25 + 3) 1 ≡ 2 ^ 25 + 4)
unfolding rounding lib.Ieee.size
ties = (refl, refl, refl)

-- a bound is reached, and it is the least
million_within : Within binary64 limit 1000000
unfolding limit million of_bits fits mag one
million_within = literal_within binary64 (of_bits binary64 0x412E_8480_0000_0000) 1000000 tt

not_less : Within binary64 limit 999999 → ⊥
unfolding limit million of_bits mag one
not_less w = not-le_of_lt {n = mag binary64 limit} {m = 999999 * one binary64} (lit< tt) w.bound
