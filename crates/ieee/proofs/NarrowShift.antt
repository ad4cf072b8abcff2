-- The pattern of m * 2 ^ i / 2 ^ l, rounded: m shifted right by as many places as leave the format's digits, to the nearest number.
-- One law for subnormal results, where nothing is counted into the exponent's field (k = 0), and for normal ones.
use Rattle.std.proofs.Common.{◌≡◌, ℕ, zero, suc, ◌+◌, ◌-◌, ◌*◌, ◌/◌, ◌^◌, ◌<◌, ◌≤◌, min, sym, ap, ◌∙◌, subst, le_trans, le_of_eq, lt_of_lt_of_le, mul-le-mul_right, mul_assoc, div-lt_iff_lt-mul, mul-lt-mul_of_pos_right, mul-pos, le-div_iff_mul-le, arith, pow_pos, pow-add}
use lib.Ieee.{Format, prec, low, size, hid, ones}
use lib.Ieee.Digits.{size-le}
use lib.Ieee.Fits.{two}
use lib.Ieee.Nearest.{closest, closest_same}
use lib.Ieee.Order.{drop, kept}
use Rattle.ieee.proofs.Coded.{size_exact}
use Rattle.ieee.proofs.NarrowPattern.{pattern}

-- two products of powers of two with the same exponents
powers : (a b c d : ℕ) → a + b ≡ c + d → 2 ^ a * 2 ^ b ≡ 2 ^ c * 2 ^ d
powers a b c d e = sym (pow-add 2 a b) ∙ ap (λ (x : ℕ). 2 ^ x) e ∙ pow-add 2 c d

module _ (p m e l by k : ℕ) (P : 0 < p) (places : e + by ≡ l + k) (hi : m < 2 ^ (p + by)) (lo : 0 < k → 2 ^ (p + by - 1) ≤ m) where
  whole_lt : m * 2 ^ e / 2 ^ l < 2 ^ (p + k)
  whole_lt =
      (div-lt_iff_lt-mul (pow_pos l)).1
      (lt_of_lt_of_le (mul-lt-mul_of_pos_right hi (pow_pos e)) (le_of_eq (powers (p + by) e (p + k) l (omega arith))))

  whole_ge : 0 < k → 2 ^ (p + k - 1) ≤ m * 2 ^ e / 2 ^ l
  whole_ge K =
      (le-div_iff_mul-le (pow_pos l)).1
      (le_trans (le_of_eq (powers (p + k - 1) l (p + by - 1) e (omega arith))) (mul-le-mul_right (2 ^ e) (lo K)))

  drop_is : drop p (m * 2 ^ e) (2 ^ l) ≡ k
  drop_is = go k (size-le (m * 2 ^ e / 2 ^ l) (p + k) whole_lt) whole_lt whole_ge
    where
      go : (j : ℕ) → size (m * 2 ^ e / 2 ^ l) ≤ p + j → m * 2 ^ e / 2 ^ l < 2 ^ (p + j) → (0 < j → 2 ^ (p + j - 1) ≤ m * 2 ^ e / 2 ^ l) → drop p (m * 2 ^ e) (2 ^ l) ≡ j
      go zero s h g = omega arith
      go (suc j) s h g =
          let next : p + suc j ≡ suc (p + suc j - 1) = omega arith in
          omega (arith, size_exact (p + suc j - 1) (m * 2 ^ e / 2 ^ l) (g (omega arith)) (subst (λ (x : ℕ). m * 2 ^ e / 2 ^ l < 2 ^ x) next h))

  kept_is : kept p (m * 2 ^ e) (2 ^ l) ≡ closest m (2 ^ by)
  kept_is =
      ap (λ (j : ℕ). closest (m * 2 ^ e) (2 ^ l * 2 ^ j)) drop_is
      ∙ closest_same (m * 2 ^ e) (2 ^ l * 2 ^ k) m (2 ^ by) (mul-pos (pow_pos l) (pow_pos k)) (pow_pos by)
      (mul_assoc m (2 ^ e) (2 ^ by) ∙ ap (λ (x : ℕ). m * x) (powers e by l k places))

pub pattern_shift : (f : Format) (m i l by k : ℕ) → i + low f + by ≡ l + k → m < 2 ^ (prec f + by) → (0 < k → 2 ^ (prec f + by - 1) ≤ m)
    → pattern f (m * 2 ^ i) (2 ^ l) ≡ min (k * hid f + closest m (2 ^ by)) (ones f * hid f)
unfolding pattern
pattern_shift f m i l by k places hi lo =
    let P : 0 < prec f = omega (arith, two f) in
    let n_is : m * 2 ^ i * 2 ^ low f ≡ m * 2 ^ (i + low f) = mul_assoc m (2 ^ i) (2 ^ low f) ∙ ap (λ (x : ℕ). m * x) (sym (pow-add 2 i (low f))) in
    ap (λ (n : ℕ). min (drop (prec f) n (2 ^ l) * hid f + kept (prec f) n (2 ^ l)) (ones f * hid f)) n_is
    ∙ ap (λ (j : ℕ). min (j * hid f + kept (prec f) (m * 2 ^ (i + low f)) (2 ^ l)) (ones f * hid f)) (drop_is (prec f) m (i + low f) l by k P places hi lo)
    ∙ ap (λ (q : ℕ). min (k * hid f + q) (ones f * hid f)) (kept_is (prec f) m (i + low f) l by k P places hi lo)
