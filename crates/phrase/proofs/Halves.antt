-- Halves of a frame, which document 02 asks for in Ask 5 and nothing counts yet. "halves × 0.5 is exact", and what follows from it: an even
-- number of halves is a number of whole frames. Assumes nothing.
use Prim.Native.Nat.{ℕ, suc, ◌+◌, ◌*◌, ◌^◌, ◌≤◌, ◌<◌}
use mathlib.Core.Bool.{true, false}
use mathlib.Core.Path.{◌≡◌, sym, ap, subst, ◌∙◌}
use native.Mathlib.Nat.{le_of_lt, lt_of_lt_of_le, zero-lt-suc, mul_assoc, mul-le-mul_right, le_of_mul-le-mul_right, eq_of_mul-eq-mul_right}
use lib.Pow.{pow-add, pow_mono, shl_lt}
use native.Mathlib.Omega.{arith}
use lib.Dec.{T, lit≤}
use lib.IntN.{pos}
use lib.Ieee.{Float, nan, inf, fin, binary64, prec, low, emax, up, down, round, mul, of_int, of_bits}
use lib.Ieee.Exact.{HasValue, round_exact}
use lib.Ieee.Scale.{round_same}
use lib.Ieee.Back.{round_whole, whole_unique}
use lib.Ieee.Fits.{of_int-fits, mul-fits}
use lib.Ieee.Positive.{den, den_pos}
use Rattle.ieee.specs.Inner.Value.{one, mag, over, under, Real, Within}
use Rattle.ieee.proofs.Value.{exact, value_cross, value_finite, value_over, value_under}
use Rattle.phrase.specs.Filler.{counted}

-- the f64 constant 0.5
abbrev pub half : Float
half = of_bits binary64 0x3fe0_0000_0000_0000

-- "halves × 0.5": so many halves in frames
abbrev pub in_frames : ℕ → Float
in_frames halves = mul binary64 (counted halves) half

-- a count has its own value
count_exact : (n : ℕ) → n ≤ 2 ^ prec binary64 → HasValue (counted n) false n 1
unfolding of_int
count_exact n h = round_whole binary64 false n h

positive : true ≡ false → ⊥
positive e = subst T e tt

-- times 0.5 it is rounded from n / 2
times_half : (x : Float) (n : ℕ) → HasValue x false n 1 → mul binary64 x half ≡ round binary64 false n 2
unfolding mul of_bits
times_half nan n v = absurd v
times_half (inf s) n v = absurd v
times_half (fin true m e) n v = absurd (positive v.0)
times_half (fin false m e) n v =
    round_same binary64 false (m * up e * 1) (down e * 2) n 2 (omega (arith, den_pos (fin false m e))) (zero-lt-suc 1) (omega (arith, v.1))

-- "halves × 0.5 is exact": it is halves / 2. A record has at most 4,096 of them; this holds below 2^53.
pub halves_exact : (halves : ℕ) → halves < 2 ^ prec binary64 → HasValue (in_frames halves) false halves 2
halves_exact halves h =
    subst (λ (x : Float). HasValue x false halves 2) (sym (times_half (counted halves) halves (count_exact halves (le_of_lt h))))
    (round_exact binary64 false halves 2 halves 1073 (zero-lt-suc 1) h small in_units)
  where
    small : halves * 2 ^ 1073 < 2 ^ (low binary64 + suc (emax binary64))
    small = lt_of_lt_of_le (shl_lt (prec binary64) 1073 h) (pow_mono {i = 1126} {j = 2098} (lit≤ tt))

    in_units : halves * 2 ^ low binary64 ≡ halves * 2 ^ 1073 * 2
    in_units = ap (λ (units : ℕ). halves * units) (pow-add 2 1073 1) ∙ sym (mul_assoc halves (2 ^ 1073) 2)

-- ---- in units of the format: over is half of so many

pub record InHalves (halves : ℕ) : Type 0 where
  pub over_is : 2 * over binary64 (in_frames halves) ≡ halves * one binary64
  pub under_is : under binary64 (in_frames halves) ≡ 0

module _ (halves : ℕ) (h : halves < 2 ^ prec binary64) where
  frames_real : Real binary64 (in_frames halves)
  frames_real = record {
    is_finite = value_finite (in_frames halves) false halves 2 (halves_exact halves h);
    is_held = mul-fits binary64 (counted halves) half;
  }

  size : 2 * mag binary64 (in_frames halves) ≡ halves * one binary64
  size =
      let x = in_frames halves in
      eq_of_mul-eq-mul_right (den x) (den_pos x) (2 * mag binary64 x) (halves * one binary64)
      (omega (
        arith,
        exact frames_real,
        ap (λ (z : ℕ). z * one binary64) (value_cross x false halves 2 (halves_exact halves h)),
      ))

  pub in_halves : InHalves halves
  in_halves =
      let v = halves_exact halves h in
      record {
        over_is = ap (λ (z : ℕ). 2 * z) (value_over binary64 (in_frames halves) false halves 2 v) ∙ size;
        under_is = value_under binary64 (in_frames halves) false halves 2 v;
      }

  -- no more than so many frames
  pub frames_within : (frames : ℕ) → halves ≤ 2 * frames → Within binary64 (in_frames halves) frames
  frames_within frames few =
      record { real = frames_real; bound = le_of_mul-le-mul_right {k = 2} (omega (arith, size, mul-le-mul_right (one binary64) few)) (zero-lt-suc 1) }

-- ---- two halves to a frame

-- from one fraction to another of the same size
halved_value : (x : Float) (n : ℕ) → HasValue x false (2 * n) 2 → HasValue x false n 1
halved_value nan n v = v
halved_value (inf s) n v = v
halved_value (fin s m e) n v = (v.0, omega (arith, v.1))

pub whole_frames : (frames : ℕ) → 2 * frames < 2 ^ prec binary64 → in_frames (2 * frames) ≡ counted frames
whole_frames frames h =
    whole_unique binary64 (in_frames (2 * frames)) (counted frames) false frames (mul-fits binary64 (counted (2 * frames)) half)
    (of_int-fits binary64 (pos frames)) (halved_value (in_frames (2 * frames)) frames (halves_exact (2 * frames) h))
    (count_exact frames (omega (arith, h)))
