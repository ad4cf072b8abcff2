-- From grains to powers of two: an error of so many grains is at most 2 ^ -digits, and two such errors are at most twice that. Assumes nothing.
use Prim.Native.Nat.{ℕ, suc, ◌+◌, ◌-◌, ◌*◌, ◌^◌, ◌≤◌}
use mathlib.Core.Path.{◌≡◌, sym, ap, ◌∙◌}
use native.Mathlib.Nat.{le_trans, le_of_eq, mul-le-mul_right, pow-suc}
use native.Mathlib.Omega.{arith}
use lib.Dec.{T}
use lib.IntN.{ℤ}
use lib.Pow.{pow-add}
use lib.Ieee.{Float, binary64, prec, le}
use Rattle.ieee.proofs.Order.{le_iff}
use Rattle.exact.specs.Scaled.{scale, scaled}
use Rattle.exact.specs.Apart.{apart, excess}
use Rattle.exact.specs.Theory.Close.{half_place, Close}
use Rattle.exact.proofs.Parts.{apart_within, excess_within}
use Rattle.exact.proofs.Scaled.{scaled_above, scaled_below}
use Rattle.distance.specs.Distance.{AtMost}

-- 1 in grains
scale_grains : (v : ℕ) → v ≤ suc (prec binary64) → 2 ^ (suc (prec binary64) - v) * half_place v ≡ scale
unfolding half_place scale
scale_grains v h = sym (pow-add 2 (suc (prec binary64) - v) (v + 1021)) ∙ ap (λ (n : ℕ). 2 ^ n) exponent
  where
    exponent : suc (prec binary64) - v + (v + 1021) ≡ 1075
    exponent = omega arith

-- so many grains are at most 2 ^ -digits
grains_most : (v error digits : ℕ) → v ≤ suc (prec binary64) → error * 2 ^ digits ≤ 2 ^ (suc (prec binary64) - v)
    → AtMost (error * half_place v) digits
grains_most v error digits few enough = le_trans (omega (arith, mul-le-mul_right (half_place v) enough)) (le_of_eq (scale_grains v few))

module _ {v error : ℕ} (digits : ℕ) (few : v ≤ suc (prec binary64)) where
  -- a value and its exact counterpart
  pub near_exact : {x : Float} {z : ℤ} {a : ℕ} → Close (half_place v) x z a error → error * 2 ^ digits ≤ 2 ^ (suc (prec binary64) - v)
      → AtMost (apart (scaled x) z) digits
  near_exact {x} {z} c enough =
      le_trans (mul-le-mul_right (2 ^ digits) (apart_within (scaled x) z (error * half_place v) c.high c.low))
      (grains_most v error digits few enough)

  -- of two values the larger one has an exact counterpart that is above the other's, or below it by no more than both err
  pub not_much_above : {x y : Float} {z w : ℤ} {a b : ℕ} → Close (half_place v) x z a error → Close (half_place v) y w b error → T (le x y)
      → error * 2 ^ suc digits ≤ 2 ^ (suc (prec binary64) - v) → AtMost (excess z w) digits
  not_much_above {x} {y} {z} {w} c d less enough =
      let p = c.within.real in
      let q = d.within.real in
      let both = excess_within z w (2 * error * half_place v) (omega (
        arith,
        c.low,
        d.high,
        (le_iff p q).0 less,
        scaled_above x p,
        scaled_below x p,
        scaled_above y q,
        scaled_below y q,
      )) in
      le_trans (mul-le-mul_right (2 ^ digits) both)
      (grains_most v (2 * error) digits few (le_trans (le_of_eq (twice error digits)) enough))
    where
      twice : (e d : ℕ) → 2 * e * 2 ^ d ≡ e * 2 ^ suc d
      twice e d = omega (arith, ap (λ (n : ℕ). e * n) (pow-suc 2 d))
