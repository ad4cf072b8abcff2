-- The limits of the figures as the values of the bits that the code has for them.
use mathlib.Core.Path.{◌≡◌, refl, sym, ◌∙◌}
use lib.IntN.{pos}
use lib.Count.{count_trailing_zeros}
use lib.Ieee.{binary32, binary64, of_bits, of_fields, of_int, odd, round, size, span, climb, units}
use Rattle.limits.specs.Common.{largest_figure, million, thousand}

pub million_32 : of_bits binary32 0x4974_2400 ≡ million
unfolding of_bits of_fields of_int odd round size span climb units count_trailing_zeros
million_32 = refl

pub million_64 : of_bits binary64 0x412e_8480_0000_0000 ≡ million
unfolding of_bits of_fields of_int odd round size span climb units count_trailing_zeros
million_64 = refl

pub thousand_64 : of_bits binary64 0x408f_4000_0000_0000 ≡ thousand
unfolding of_bits of_fields of_int odd round size span climb units count_trailing_zeros
thousand_64 = refl

pub zero_64 : of_bits binary64 0 ≡ of_int binary64 (pos 0)
unfolding of_bits of_fields of_int odd round size span climb units count_trailing_zeros
zero_64 = refl

-- a million is the same value in both formats
whole_32 : of_bits binary32 0x4974_2400 ≡ of_int binary32 (pos largest_figure)
unfolding of_bits of_fields of_int odd round size span climb units count_trailing_zeros
whole_32 = refl

pub million_whole : of_int binary32 (pos largest_figure) ≡ million
million_whole = sym whole_32 ∙ million_32
