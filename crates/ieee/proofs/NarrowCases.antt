-- The pattern of a narrowed magnitude, by the exponent's field x of the f64: zero below 873, subnormal below 897, normal below 1151,
-- and an infinity from there on. An f64 has 29 digits more than an f32, and 897 is the field of the smallest normal f32.
use Rattle.std.proofs.Common.{◌≡◌, ℕ, zero, suc, ◌+◌, ◌-◌, ◌*◌, ◌/◌, ◌%◌, ◌^◌, ◌<◌, ◌≤◌, min, false, sym, refl, ap, ◌∙◌, subst, inl, inr, le_trans, lt_of_lt_of_le, mod-eq_of_lt, le-div_iff_mul-le, zero-add, arith, pow_pos, pow_mono, shr_lt}
use Prim.Native.Nat.{compare}
use native.Mathlib.Nat.{min-eq_left, min-eq_right, div-eq_of_lt}
use lib.Ieee.{binary32, binary64, low, hid, ones, of_fields, to_bits}
use lib.Ieee.Fits.{nearest-le}
use lib.Ieee.Nearest.{closest, nearest-ge}
use Rattle.ieee.specs.Convert.{narrowed}
use Rattle.ieee.proofs.NarrowNearest.{closest_down}
use Rattle.ieee.proofs.NarrowPattern.{pattern}
use Rattle.ieee.proofs.NarrowShift.{pattern_shift}
use Rattle.ieee.proofs.NarrowFields.{Number, significand, finite_pattern, infinite_pattern}

-- ---- the nearest number's range
closest_zero : (m u : ℕ) → m * 2 < u → closest m u ≡ 0
closest_zero m u h =
    let small : m < u = omega arith in
    sym (closest_down m u (subst (λ (r : ℕ). r * 2 < u) (sym (mod-eq_of_lt small)) h)) ∙ div-eq_of_lt small

pub closest_le : (m p by : ℕ) → m < 2 ^ (p + by) → closest m (2 ^ by) ≤ 2 ^ p
closest_le m p by h = le_trans (nearest-le (m / 2 ^ by) (compare (m % 2 ^ by * 2) (2 ^ by))) (shr_lt p by h)

closest_ge : (m w by : ℕ) → w * 2 ^ by ≤ m → w ≤ closest m (2 ^ by)
closest_ge m w by h = le_trans ((le-div_iff_mul-le (pow_pos by)).1 h) (nearest-ge (m / 2 ^ by) (compare (m % 2 ^ by * 2) (2 ^ by)))

-- ---- the digits of an f64
significand_lt : (x t : ℕ) → t < hid binary64 → significand binary64 x t < 2 ^ 53
significand_lt zero t h = omega arith
significand_lt (suc x) t h = omega arith

leading : (x t : ℕ) → 0 < x → significand binary64 x t ≡ hid binary64 + t
leading zero t h = absurd (omega arith)
leading (suc x) t h = refl

-- ---- shifted to the f32's digits: `by` places go, and k is counted into the exponent's field
shifted : (x t by k : ℕ) → x < ones binary64 → x - 1 + 149 + by ≡ 1074 + k → significand binary64 x t < 2 ^ (24 + by) → (0 < k → 2 ^ (24 + by - 1) ≤ significand binary64 x t)
    → to_bits binary32 (narrowed (of_fields binary64 false x t)) ≡ min (k * hid binary32 + closest (significand binary64 x t) (2 ^ by)) (ones binary32 * hid binary32)
shifted x t by k h places hi lo =
    finite_pattern false x t h
    ∙ zero-add (pattern binary32 (significand binary64 x t * 2 ^ (x - 1)) (2 ^ low binary64))
    ∙ pattern_shift binary32 (significand binary64 x t) (x - 1) (low binary64) by k places hi lo

module _ (x t : ℕ) (T : t < hid binary64) where
  below : (by : ℕ) → 29 ≤ by → significand binary64 x t < 2 ^ (24 + by)
  below by h = lt_of_lt_of_le (significand_lt x t T) (pow_mono {i = 53} {j = 24 + by} (omega arith))

  pub to_zero : x < 873 → to_bits binary32 (narrowed (of_fields binary64 false x t)) ≡ 0
  to_zero h =
      let by = 925 - (x - 1) in
      let half : significand binary64 x t * 2 < 2 ^ by = lt_of_lt_of_le (omega (arith, significand_lt x t T)) (pow_mono {i = 54} {j = by} (omega arith)) in
      shifted x t by 0 (omega arith) (omega arith) (below by (omega arith)) (λ (k : 0 < 0). absurd (omega arith))
      ∙ ap (λ (q : ℕ). min (0 * hid binary32 + q) (ones binary32 * hid binary32)) (closest_zero (significand binary64 x t) (2 ^ by) half)

  pub to_subnormal : 0 < x → x < 897 → to_bits binary32 (narrowed (of_fields binary64 false x t)) ≡ closest (hid binary64 + t) (2 ^ (29 + (897 - x)))
  to_subnormal X h =
      let by = 29 + (897 - x) in
      shifted x t by 0 (omega arith) (omega arith) (below by (omega arith)) (λ (k : 0 < 0). absurd (omega arith))
      ∙ min-eq_left (omega (arith, closest_le (significand binary64 x t) 24 by (below by (omega arith))))
      ∙ zero-add (closest (significand binary64 x t) (2 ^ by))
      ∙ ap (λ (n : ℕ). closest n (2 ^ by)) (leading x t X)

  normal : 897 ≤ x → x < ones binary64 → to_bits binary32 (narrowed (of_fields binary64 false x t)) ≡ min ((x - 897) * hid binary32 + closest (hid binary64 + t) (2 ^ 29)) (ones binary32 * hid binary32)
  normal X h =
      shifted x t 29 (x - 897) h (omega arith) (below 29 (omega arith)) (λ (k : 0 < x - 897). omega (arith, leading x t (omega arith)))
      ∙ ap (λ (n : ℕ). min ((x - 897) * hid binary32 + closest n (2 ^ 29)) (ones binary32 * hid binary32)) (leading x t (omega arith))

  pub to_normal : 897 ≤ x → x < 1151 → to_bits binary32 (narrowed (of_fields binary64 false x t)) ≡ (x - 897) * hid binary32 + closest (hid binary64 + t) (2 ^ 29)
  to_normal X h = normal X (omega arith) ∙ min-eq_left (omega (arith, closest_le (hid binary64 + t) 24 29 (omega arith)))

  pub to_infinite : 1151 ≤ x → Number x t → to_bits binary32 (narrowed (of_fields binary64 false x t)) ≡ ones binary32 * hid binary32
  to_infinite X (inl h) = normal (omega arith) h ∙ min-eq_right (omega (arith, closest_ge (hid binary64 + t) (2 ^ 23) 29 (omega arith)))
  to_infinite X (inr h) = infinite_pattern false x t h.0 h.1
