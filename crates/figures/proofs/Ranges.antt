-- The range tests on bits, with the bits of the limits.
use Rattle.std.proofs.Common.{ℕ, Bool, ◌≡◌, ap, ap₂, ◌∙◌}
use Rattle.std.specs.Float.{binary32, binary64}
use Rattle.std.specs.Float.Ieee.{neg}
use lib.Ieee.{Float, of_bits}
use Rattle.ieee.specs.Range.{between, within}
use Rattle.ieee.specs.Inner.Ranges.{RangeTest}
use Rattle.limits.specs.Common.{million, thousand}
use Rattle.limits.proofs.Figures.{million_32, million_64, thousand_64, zero_64}
use Rattle.record.specs.Conditions.{is_duration}

module _ {p bits : ℕ} {r : Bool} (is : bits ≡ p) where
  pub score_tested : RangeTest binary32 (within (of_bits binary32 0x4974_2400)) bits r → r ≡ within million (of_bits binary32 p)
  score_tested test = test.answer ∙ ap₂ (λ (l : Float) (p : ℕ). within l (of_bits binary32 p)) million_32 is

  pub cost_tested : RangeTest binary64 (within (of_bits binary64 0x408f_4000_0000_0000)) bits r → r ≡ within thousand (of_bits binary64 p)
  cost_tested test = test.answer ∙ ap₂ (λ (l : Float) (p : ℕ). within l (of_bits binary64 p)) thousand_64 is

  pub duration_tested : RangeTest binary64 (between (neg (of_bits binary64 0x412e_8480_0000_0000)) (of_bits binary64 0)) bits r → r ≡ is_duration (of_bits binary64 p)
  duration_tested test =
      test.answer
      ∙ ap₂ (λ (l z : Float). between (neg l) z (of_bits binary64 bits)) million_64 zero_64
      ∙ ap (λ (p : ℕ). is_duration (of_bits binary64 p)) is
