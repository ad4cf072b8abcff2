-- The error of each rounded operation: beside what its operands err by, half the last place of an f64 that is as large as the result may be.
-- Where several operations follow each other their errors add up. Assumes nothing.
use Prim.Native.Nat.{ℕ, ◌+◌, ◌-◌, ◌*◌, ◌^◌, ◌≤◌, ◌<◌}
use mathlib.Core.Bool.{false}
use mathlib.Core.Path.{◌≡◌, sym, ap, subst, ◌∙◌}
use native.Mathlib.Nat.{le_trans, le_of_lt, mul-le-mul, mul-le-mul_right, mul-lt-mul_of_pos_right, mul-pos, zero-lt-suc, le_of_mul-le-mul_right}
use native.Mathlib.Omega.{arith}
use lib.Dec.{T}
use lib.IntN.{ℤ, pos, neg_ℤ, ◌+ℤ◌, ◌-ℤ◌, ◌*ℤ◌}
use lib.Pow.{pow-add, pow_mono}
use lib.Ieee.{Float, binary64, prec, low, neg, add, sub, mul, of_int}
use lib.Ieee.Exact.{HasValue}
use lib.Ieee.Scale.{finite}
use lib.Ieee.Back.{round_whole}
use Rattle.laws.proofs.Numbers.{by_order}
use Rattle.ieee.specs.Inner.Value.{one, over, under, Real, Within}
use Rattle.ieee.specs.Theory.Rounded.{rounding, Result}
use Rattle.ieee.proofs.Value.{one_pos, sides, neg_over, neg_under, neg_real, value_over, value_under, whole_mag}
use Rattle.ieee.proofs.Rounding.{rounding_zero}
use Rattle.ieee.proofs.Result.{add_result, mul_result}
use Rattle.ieee.proofs.Magnitude.{weaken, add_within, result_within, neg_within, whole_within}
use Rattle.exact.specs.Apart.{above}
use Rattle.exact.specs.Scaled.{scaled}
use Rattle.exact.specs.Theory.Close.{below, half_place, Errs, Close}
use Rattle.exact.proofs.Parts.{below_neg, add_parts, mul_above, mul_below}
use Rattle.exact.proofs.Scaled.{scaled_above, scaled_below}
use Rattle.exact.proofs.Halves.{halved, halved_above, halved_below}
use Rattle.exact.proofs.HalfPlace.{place_is}
use Rattle.exact.proofs.Nearest.{Halved, rounding_near}

-- ---- figures in units of the format

record InUnits (x : Float) : Type 0 where
  over_is : above (scaled x) ≡ 2 * over binary64 x
  under_is : below (scaled x) ≡ 2 * under binary64 x

in_units : {x : Float} → Real binary64 x → InUnits x
in_units {x} r = record { over_is = scaled_above x r; under_is = scaled_below x r }

-- a count
record Whole (n : ℕ) : Type 0 where
  over_is : over binary64 (of_int binary64 (pos n)) ≡ n * one binary64
  under_is : under binary64 (of_int binary64 (pos n)) ≡ 0

whole_is : (n : ℕ) → n ≤ 2 ^ prec binary64 → Whole n
whole_is n h = record {
  over_is = value_over binary64 (of_int binary64 (pos n)) false n 1 v ∙ whole_mag binary64 (of_int binary64 (pos n)) false n v;
  under_is = value_under binary64 (of_int binary64 (pos n)) false n 1 v;
}
  where
    v : HasValue (of_int binary64 (pos n)) false n 1
    v = unfold of_int in round_whole binary64 false n h

-- 2 ^ v in units of the format
units_below : (v : ℕ) → 2 ^ v * one binary64 ≡ 2 ^ (v + low binary64)
unfolding one
units_below v = sym (pow-add 2 v (low binary64))

-- ---- a rounded result: p / c - n / c in units of the format, below 2 ^ v in size

record Rounded (r : Float) (p n c place : ℕ) : Type 0 where
  high : 2 * (over binary64 r * c) + 2 * n ≤ 2 * (under binary64 r * c) + 2 * p + place * c
  low : 2 * (under binary64 r * c) + 2 * p ≤ 2 * (over binary64 r * c) + 2 * n + place * c

result_near : {r : Float} {p n c : ℕ} (v : ℕ) → 0 < c → Result binary64 r p n c → T (finite r)
    → p < 2 ^ v * one binary64 * c + n → n < 2 ^ v * one binary64 * c + p → Rounded r p n c (half_place v)
result_near {r} {p} {n} {c} v C w t h k =
    by_order p n
    (λ (less : p < n).
    let near = at (n - p) (omega (arith, k)) in
    let nothing : rounding binary64 (p - n) c ≡ 0 = ap (λ (z : ℕ). rounding binary64 z c) (minus p n (le_of_lt less)) ∙ rounding_zero binary64 c C in
    let o = ap (λ (z : ℕ). z * c) (w.above t ∙ nothing) in
    let u = ap (λ (z : ℕ). z * c) (w.below t) in
    record { high = omega (arith, near.low); low = omega (arith, near.high) })
    (λ (more : n ≤ p).
    let near = at (p - n) (omega (arith, h)) in
    let nothing : rounding binary64 (n - p) c ≡ 0 = ap (λ (z : ℕ). rounding binary64 z c) (minus n p more) ∙ rounding_zero binary64 c C in
    let o = ap (λ (z : ℕ). z * c) (w.above t) in
    let u = ap (λ (z : ℕ). z * c) (w.below t ∙ nothing) in
    record { high = omega (arith, near.high); low = omega (arith, near.low) })
  where
    minus : (a b : ℕ) → a ≤ b → a - b ≡ 0
    minus a b h = omega arith

    at : (m : ℕ) → m < 2 ^ v * one binary64 * c → Halved (rounding binary64 m c * c) m (half_place v * c)
    at m h =
        subst (λ (z : ℕ). Halved (rounding binary64 m c * c) m (z * c)) (place_is v)
        (rounding_near binary64 m c (v + low binary64) C (subst (λ (z : ℕ). m < z * c) (units_below v) h))

-- below 2 ^ v by a whole-number bound
under_power : (v a p n c : ℕ) → 0 < c → a < 2 ^ v → p ≤ a * one binary64 * c + n → p < 2 ^ v * one binary64 * c + n
under_power v a p n c C h l = omega (arith, mul-lt-mul_of_pos_right h (mul-pos (one_pos binary64) C))

-- ---- what errs by nothing

pub scaled_close : {grain : ℕ} {x : Float} {a : ℕ} → Within binary64 x a → Close grain x (scaled x) a 0
scaled_close w = record { within = w; high = omega arith; low = omega arith }

pub neg_close : {grain : ℕ} {x : Float} {z : ℤ} {a e : ℕ} → Close grain x z a e → Close grain (neg x) (neg_ℤ z) a e
neg_close {grain} {x} {z} c =
    let ours = in_units c.within.real in
    let theirs = in_units (neg_real c.within.real) in
    record {
      within = neg_within c.within;
      high = omega (arith, ours, theirs, neg_over binary64 x, neg_under binary64 x, c.low, below_neg z);
      low = omega (arith, ours, theirs, neg_over binary64 x, neg_under binary64 x, c.high, below_neg z);
    }

pub loosen : {grain : ℕ} {x : Float} {z : ℤ} {a e : ℕ} (b d : ℕ) → a ≤ b → e ≤ d → Close grain x z a e → Close grain x z b d
loosen {grain} b d h k c =
    let more = mul-le-mul_right grain k in
    record { within = weaken b h c.within; high = omega (arith, c.high, more); low = omega (arith, c.low, more) }

-- ---- the operations: `extra` grains for a result below 2 ^ v

room : {a : ℕ} (v : ℕ) → v ≤ prec binary64 → a < 2 ^ v → a ≤ 2 ^ prec binary64
room v few small = le_trans (le_of_lt small) (pow_mono {i = v} {j = prec binary64} few)

-- what a product is at most, in units
sizes : {x y : Float} {a b : ℕ} → Within binary64 x a → Within binary64 y b
    → (over binary64 x + under binary64 x) * (over binary64 y + under binary64 y) ≤ a * b * one binary64 * one binary64
sizes {x} {y} {a} {b} p q =
    le_trans (mul-le-mul {n₂ = a * one binary64} {m₂ = b * one binary64} (omega (arith, sides binary64 x, p.bound))
    (omega (arith, sides binary64 y, q.bound))) (omega arith)

module _ {grain v extra : ℕ} (errs : Errs grain v extra) where
  module _ {x y : Float} {z w : ℤ} {a b e d : ℕ} (p : Close grain x z a e) (q : Close grain y w b d) (small : a + b < 2 ^ v) where
    pub add_close : Close grain (add binary64 x y) (z +ℤ w) (a + b) (e + d + extra)
    add_close =
        let within = add_within p.within q.within (room v errs.digits small) in
        let first = in_units p.within.real in
        let second = in_units q.within.real in
        let both = in_units within.real in
        let sides-x = sides binary64 x in
        let sides-y = sides binary64 y in
        let near = result_near v (zero-lt-suc 0) (add_result p.within.real q.within.real) within.real.is_finite
        (under_power v (a + b) _ _ 1 (zero-lt-suc 0) small (omega (arith, p.within.bound, q.within.bound)))
        (under_power v (a + b) _ _ 1 (zero-lt-suc 0) small (omega (arith, p.within.bound, q.within.bound))) in
        record {
          within = within;
          high = omega (arith, first, second, both, near.high, p.high, q.high, add_parts z w, errs.place);
          low = omega (arith, first, second, both, near.low, p.low, q.low, add_parts z w, errs.place);
        }

  module _ {x y : Float} {z w : ℤ} {a b e d : ℕ} (p : Close grain x z a e) (q : Close grain y w b d) (small : a + b < 2 ^ v) where
    pub sub_close : Close grain (sub binary64 x y) (z -ℤ w) (a + b) (e + d + extra)
    unfolding sub
    sub_close = add_close p (neg_close q) small

  -- w is the exact product in parts, of which two make a unit: with the operands in units, twice their product over the units of 1
  module _ {x y : Float} (p : Real binary64 x) (q : Real binary64 y) (bound : ℕ)
      (sized : (over binary64 x + under binary64 x) * (over binary64 y + under binary64 y) ≤ bound * one binary64 * one binary64)
      (small : bound < 2 ^ v) (w : ℤ)
      (whole : above w * one binary64 + 2 * (over binary64 x * under binary64 y + under binary64 x * over binary64 y)
      ≡ 2 * (over binary64 x * over binary64 y + under binary64 x * under binary64 y) + below w * one binary64) where
    pub mul_close : Close grain (mul binary64 x y) w bound extra
    mul_close =
        let one_unit = one_pos binary64 in
        let within = result_within bound one_unit (room v errs.digits small) (mul_result p q) (omega (arith, sized)) (omega (arith, sized)) in
        let near = result_near v one_unit (mul_result p q) within.real.is_finite
        (under_power v bound _ _ (one binary64) one_unit small (omega (arith, sized)))
        (under_power v bound _ _ (one binary64) one_unit small (omega (arith, sized))) in
        let result = in_units within.real in
        let overs = ap (λ (k : ℕ). k * one binary64) result.over_is in
        let unders = ap (λ (k : ℕ). k * one binary64) result.under_is in
        let place = mul-le-mul_right (one binary64) errs.place in
        record {
          within = within;
          high = le_of_mul-le-mul_right (omega (arith, near.high)) one_unit;
          low = le_of_mul-le-mul_right (omega (arith, near.low)) one_unit;
        }

  -- a figure times a count
  pub times_close : {x : Float} {a : ℕ} → Within binary64 x a → (n : ℕ) → n ≤ 2 ^ prec binary64 → a * n < 2 ^ v
      → Close grain (mul binary64 x (of_int binary64 (pos n))) (scaled x *ℤ pos n) (a * n) extra
  times_close {x} {a} p n few_digits small =
      let count = whole_within binary64 n few_digits in
      let is = whole_is n few_digits in
      let figure = in_units p.real in
      mul_close p.real count.real (a * n) (sizes p count) small (scaled x *ℤ pos n) (omega (
        arith,
        ap (λ (k : ℕ). k * one binary64) (mul_above (scaled x) n ∙ ap (λ (k : ℕ). k * n) figure.over_is),
        ap (λ (k : ℕ). k * one binary64) (mul_below (scaled x) n ∙ ap (λ (k : ℕ). k * n) figure.under_is),
        ap (λ (k : ℕ). over binary64 x * k) is.over_is,
        ap (λ (k : ℕ). under binary64 x * k) is.over_is,
        ap (λ (k : ℕ). over binary64 x * k) is.under_is,
        ap (λ (k : ℕ). under binary64 x * k) is.under_is,
      ))

  -- a figure of at most twice `a` times a count of halves: y is n halves
  module _ {x y : Float} (a n : ℕ) (p : Within binary64 x (2 * a)) (q : Real binary64 y)
      (over_is : 2 * over binary64 y ≡ n * one binary64) (under_is : under binary64 y ≡ 0) (small : a * n < 2 ^ v) where
    sized : (over binary64 x + under binary64 x) * (over binary64 y + under binary64 y) ≤ a * n * one binary64 * one binary64
    sized =
        let size : over binary64 x + under binary64 x ≤ 2 * a * one binary64 = omega (arith, sides binary64 x, p.bound) in
        omega (
          arith,
          mul-le-mul_right (over binary64 y) size,
          ap (λ (k : ℕ). a * one binary64 * k) over_is,
          ap (λ (k : ℕ). (over binary64 x + under binary64 x) * k) under_is,
        )

    pub halves_close : Close grain (mul binary64 x y) (halved (scaled x *ℤ pos n)) (a * n) extra
    halves_close =
        let z = scaled x *ℤ pos n in
        let figure = in_units p.real in
        let overs : above (halved z) ≡ over binary64 x * n =
        omega (arith, halved_above z, mul_above (scaled x) n, ap (λ (k : ℕ). k * n) figure.over_is) in
        let unders : below (halved z) ≡ under binary64 x * n =
        omega (arith, halved_below z, mul_below (scaled x) n, ap (λ (k : ℕ). k * n) figure.under_is) in
        mul_close p.real q (a * n) sized small (halved z) (omega (
          arith,
          ap (λ (k : ℕ). k * one binary64) overs,
          ap (λ (k : ℕ). k * one binary64) unders,
          ap (λ (k : ℕ). over binary64 x * k) over_is,
          ap (λ (k : ℕ). under binary64 x * k) over_is,
          ap (λ (k : ℕ). over binary64 x * k) under_is,
          ap (λ (k : ℕ). under binary64 x * k) under_is,
        ))
