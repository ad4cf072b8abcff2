-- What is clamped to ±1,000,000 is finite, and stays so when it is narrowed.
use Rattle.std.proofs.Common.{◌≡◌, ℕ, ◌*◌, ◌≤◌, Bool, true, false, cond, not, T, ltb, ℤ, pos, refl, arith, lit≤, nltb→le}
use Rattle.std.specs.Float.{float_clamp}
use lib.Ieee.{Float, nan, inf, fin, binary32, binary64, up, down, is_nan, lt, neg, of_bits}
use lib.Ieee.Fits.{down_pos}
use Rattle.laws.proofs.Choices.{taken, passed}
use Rattle.ieee.specs.Inner.Value.{Within}
use Rattle.ieee.specs.Convert.{narrowed, lowest, highest, clamped, clamped_log}
use Rattle.ieee.proofs.Magnitude.{round_within}

-- ---- the cases of `clamped`, and its bounds as the code has them
pub lowest_is : neg (of_bits binary64 0x412e848000000000) ≡ lowest
unfolding neg of_bits
lowest_is = refl

highest_is : of_bits binary64 0x412e848000000000 ≡ highest
unfolding of_bits
highest_is = refl

module _ (v : Float) where
  pub clamped_nan : is_nan v ≡ true → lowest ≡ clamped v
  unfolding clamped
  clamped_nan h = taken _ h

  pub clamped_number_is : is_nan v ≡ false → float_clamp v (neg (of_bits binary64 0x412e848000000000)) (of_bits binary64 0x412e848000000000) ≡ clamped v
  unfolding clamped
  clamped_number_is h = rw (lowest_is, highest_is) (passed _ h refl)

-- ---- finite, and 1,000,000 in size at most
abbrev Small : Float → Type 0
Small nan = ⊥
Small (inf s) = ⊥
Small (fin s m e) = m * up e ≤ 1000000 * down e

-- of a value that is not past the bound of its sign
small : (s : Bool) (m : ℕ) (e : ℤ) (past : Bool) → (T (not past) → m * up e * 1 ≤ 1000000 * down e) → Small (cond past (fin s 15625 (pos 6)) (fin s m e))
small s m e true h = omega arith
small s m e false h = omega (arith, h tt)

clamped_small : (v : Float) → Small (clamped v)
unfolding clamped is_nan lt
clamped_small nan = omega arith
clamped_small (inf true) = omega arith
clamped_small (inf false) = omega arith
clamped_small (fin true m e) = small true m e (ltb (1000000 * down e) (m * up e * 1)) (nltb→le (1000000 * down e) (m * up e * 1))
clamped_small (fin false m e) = small false m e (ltb (1000000 * down e) (m * up e * 1)) (nltb→le (1000000 * down e) (m * up e * 1))

pub clamped_number : (v : Float) → T (not (is_nan (clamped v)))
clamped_number v = number (clamped v) (clamped_small v)
  where
    number : (v : Float) → Small v → T (not (is_nan v))
    number nan h = elim h [ ]
    number (inf _) h = elim h [ ]
    number (fin s m e) h = unfold is_nan in tt

narrowed_within : (v : Float) → Small v → Within binary32 (narrowed v) 1000000
unfolding narrowed
narrowed_within nan h = elim h [ ]
narrowed_within (inf _) h = elim h [ ]
narrowed_within (fin s m e) h = round_within binary32 s (m * up e) (down e) 1000000 (down_pos e) (lit≤ tt) h

pub clamped_log_within : (v : Float) → Within binary32 (clamped_log v) 1000000
unfolding clamped_log
clamped_log_within v = narrowed_within (clamped v) (clamped_small v)
