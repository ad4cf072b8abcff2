-- Whole-number bounds on magnitudes: they add up and multiply through rounded operations, which stay finite, as long as the bound is one
-- up to which the format counts without a gap. Assumes nothing.
use Rattle.std.proofs.Common.{◌≡◌, ℕ, ◌+◌, ◌-◌, ◌*◌, ◌^◌, ◌<◌, ◌≤◌, Bool, true, false, ◌&&◌, T, leb, ◌⊎◌, ◌↔◌, pos, sym, subst, inl, inr, le_trans, le_of_eq, lt_of_le_of_lt, mul-le-mul_right, zero-lt-suc, mul-le-mul, le_of_mul-le-mul_right, arith, leb→le}
use lib.Ieee.{Float, nan, inf, fin, Format, binary32, binary64, prec, fits, round, neg, add, sub, mul, le, of_int}
use lib.Ieee.Fits.{of_int-fits, fits_widens, and_l, and_r}
use lib.Ieee.Exact.{HasValue}
use lib.Ieee.Scale.{finite, overflow}
use lib.Ieee.Positive.{num, den, den_pos}
use lib.Ieee.Back.{round_whole}
use Rattle.ieee.specs.Inner.Value.{one, mag, over, under, Real, Within}
use Rattle.ieee.specs.Theory.Rounded.{rounding, Result}
use Rattle.ieee.specs.Range.{between, within}
use Rattle.ieee.proofs.Value.{one_pos, exact, sides, one_side, neg_real, neg_over, neg_under, value_finite, whole_mag}
use Rattle.ieee.proofs.Order.{le_iff}
use Rattle.ieee.proofs.Rounding.{round_real, round_mag, round_finite, rounding_mono, rounding_whole, whole_under}
use Rattle.ieee.proofs.Result.{add_result, sub_result, mul_result}

-- ---- what rounding does to a bound

bounded : (f : Format) (a k c : ℕ) → 0 < c → a ≤ 2 ^ prec f → k ≤ a * one f * c → rounding f k c ≤ a * one f
bounded f a k c C h l =
    subst (λ (z : ℕ). rounding f k c ≤ z) (rounding_whole f a h)
    (rounding_mono f k c (a * one f) 1 C (zero-lt-suc 0) (omega arith)
    (subst (λ (z : ℕ). z < overflow f) (sym (rounding_whole f a h)) (whole_under f a h)))

-- a fraction up to a whole number, rounded
pub round_within : (f : Format) (s : Bool) (a d n : ℕ) → 0 < d → n ≤ 2 ^ prec f → a ≤ n * d → Within f (round f s a d) n
round_within f s a d n D h l =
    let low : rounding f (a * one f) d ≤ n * one f = bounded f n (a * one f) d D h (omega (arith, mul-le-mul_right (one f) l)) in
    let small : rounding f (a * one f) d < overflow f = lt_of_le_of_lt low (whole_under f n h) in
    record { real = round_real f s a d small; bound = subst (λ (z : ℕ). z ≤ n * one f) (sym (round_mag f s a d small)) low }

-- a result whose exact value has a whole-number bound
pub result_within : {f : Format} {r : Float} {p n c : ℕ} (a : ℕ) → 0 < c → a ≤ 2 ^ prec f → Result f r p n c
    → p ≤ a * one f * c + n → n ≤ a * one f * c + p → Within f r a
result_within {f} {r} {p} {n} {c} a C h w l m =
    let up : rounding f (p - n) c ≤ a * one f = bounded f a (p - n) c C h (omega arith) in
    let down : rounding f (n - p) c ≤ a * one f = bounded f a (n - p) c C h (omega arith) in
    let t : T (finite r) = w.reached (lt_of_le_of_lt up (whole_under f a h)) (lt_of_le_of_lt down (whole_under f a h)) in
    record { real = record { is_finite = t; is_held = w.held }; bound = side (one_side f r) (w.above t) (w.below t) up down }
  where
    side : (under f r ≡ 0) ⊎ (over f r ≡ 0) → over f r ≡ rounding f (p - n) c → under f r ≡ rounding f (n - p) c
        → rounding f (p - n) c ≤ a * one f → rounding f (n - p) c ≤ a * one f → mag f r ≤ a * one f
    side (inl z) o u l m = omega (arith, sides f r)
    side (inr z) o u l m = omega (arith, sides f r)

-- ---- the operations

module _ {f : Format} {x y : Float} {a b : ℕ} (p : Within f x a) (q : Within f y b) where
  pub add_within : a + b ≤ 2 ^ prec f → Within f (add f x y) (a + b)
  add_within h =
      result_within (a + b) (zero-lt-suc 0) h (add_result p.real q.real)
      (omega (arith, sides f x, sides f y, p.bound, q.bound)) (omega (arith, sides f x, sides f y, p.bound, q.bound))

  pub sub_within : a + b ≤ 2 ^ prec f → Within f (sub f x y) (a + b)
  sub_within h =
      result_within (a + b) (zero-lt-suc 0) h (sub_result p.real q.real)
      (omega (arith, sides f x, sides f y, p.bound, q.bound)) (omega (arith, sides f x, sides f y, p.bound, q.bound))

  both : (over f x + under f x) * (over f y + under f y) ≤ a * one f * (b * one f)
  both = mul-le-mul (omega (arith, sides f x, p.bound)) (omega (arith, sides f y, q.bound))

  pub product_within : a * b ≤ 2 ^ prec f → Within f (mul f x y) (a * b)
  product_within h = result_within (a * b) (one_pos f) h (mul_result p.real q.real) (omega (arith, both)) (omega (arith, both))

  -- also where a * b is beyond that: a product is finite if a whole number that it does not exceed is
  pub product_real : (n : ℕ) → a * b ≤ n → T (finite (round f false n 1)) → Real f (mul f x y)
  product_real n h t =
      let small = round_finite f false n 1 t in
      let wide = mul-le-mul_right (one f * one f) h in
      let w = mul_result p.real q.real in
      let plus = over f x * over f y + under f x * under f y in
      let minus = over f x * under f y + under f x * over f y in
      let under_n : (k : ℕ) → k * 1 ≤ n * one f * one f → rounding f k (one f) < overflow f =
      λ k l. lt_of_le_of_lt (rounding_mono f k (one f) (n * one f) 1 (one_pos f) (zero-lt-suc 0) l small) small in
      record {
        is_finite = w.reached (under_n (plus - minus) (omega (arith, both, wide))) (under_n (minus - plus) (omega (arith, both, wide)));
        is_held = w.held;
      }

pub neg_within : {f : Format} {x : Float} {a : ℕ} → Within f x a → Within f (neg x) a
neg_within {f} {x} p = record { real = neg_real p.real; bound = omega (arith, sides f x, sides f (neg x), neg_over f x, neg_under f x, p.bound) }

pub weaken : {f : Format} {x : Float} {a : ℕ} (b : ℕ) → a ≤ b → Within f x a → Within f x b
weaken {f} b h p = record { real = p.real; bound = le_trans p.bound (mul-le-mul_right (one f) h) }

-- ---- whole numbers

pub whole_within : (f : Format) (n : ℕ) → n ≤ 2 ^ prec f → Within f (of_int f (pos n)) n
whole_within f n h = record {
  real = record { is_finite = value_finite (of_int f (pos n)) false n 1 v; is_held = of_int-fits f (pos n) };
  bound = le_of_eq (whole_mag f (of_int f (pos n)) false n v);
}
  where
    v : HasValue (of_int f (pos n)) false n 1
    v = unfold of_int in round_whole f false n h

pub mul_within : {f : Format} {x : Float} {a : ℕ} → Within f x a → (n : ℕ) → a * n ≤ 2 ^ prec f → n ≤ 2 ^ prec f
    → Within f (mul f x (of_int f (pos n))) (a * n)
mul_within {f} p n h l = product_within p (whole_within f n l) h

-- ---- ranges

-- what lies between two finite values is finite
pub between_finite : (lo hi x : Float) → T (finite lo) → T (finite hi) → T (le lo x) → T (le x hi) → T (finite x)
unfolding le
between_finite nan hi _ p q h k = elim p [ ]
between_finite (inf _) hi _ p q h k = elim p [ ]
between_finite (fin s m e) nan _ p q h k = elim q [ ]
between_finite (fin s m e) (inf _) _ p q h k = elim q [ ]
between_finite (fin s m e) (fin t n d) nan p q h k = h
between_finite (fin s m e) (fin t n d) (inf true) p q h k = h
between_finite (fin s m e) (fin t n d) (inf false) p q h k = k
between_finite (fin s m e) (fin t n d) (fin u k c) p q h l = tt

pub range_within : {f : Format} {lo hi : Float} {a : ℕ} → Within f lo a → Within f hi a
    → (x : Float) → T (fits f x) → T (between lo hi x) → Within f x a
range_within {f} {lo} {hi} {a} p q x h t =
    let above : T (le lo x) = and_l (le lo x) (le x hi) t in
    let below : T (le x hi) = and_r (le lo x) (le x hi) t in
    let r : Real f x = record { is_finite = between_finite lo hi x p.real.is_finite q.real.is_finite above below; is_held = h } in
    record { real = r; bound = side (one_side f x) ((le_iff p.real r).0 above) ((le_iff r q.real).0 below) }
  where
    side : (under f x ≡ 0) ⊎ (over f x ≡ 0)
        → over f lo + under f x ≤ over f x + under f lo → over f x + under f hi ≤ over f hi + under f x → mag f x ≤ a * one f
    side (inl z) l m = omega (arith, sides f x, sides f hi, q.bound)
    side (inr z) l m = omega (arith, sides f x, sides f lo, p.bound)

pub between_within : {f : Format} {limit : Float} {a : ℕ} → Within f limit a → (x : Float) → T (fits f x) → T (within limit x) → Within f x a
between_within p x h t = range_within (neg_within p) p x h t

-- a bound that can be worked out, as that of a literal
pub literal_within : (f : Format) (x : Float) (a : ℕ) → T (finite x && fits f x && leb (mag f x) (a * one f)) → Within f x a
literal_within f x a t =
    let small = leb (mag f x) (a * one f) in
    let h : T (finite x && fits f x) = and_l (finite x && fits f x) small t in
    record {
      real = record { is_finite = and_l (finite x) (fits f x) h; is_held = and_r (finite x) (fits f x) h };
      bound = leb→le (mag f x) (a * one f) (and_r (finite x && fits f x) small t);
    }

-- ---- what an f32 holds, an f64 holds

pub real_widens : {x : Float} → Real binary32 x → Real binary64 x
real_widens {x} r = record { is_finite = r.is_finite; is_held = fits_widens x r.is_held }

-- the bound without the format's unit
whole_iff : {f : Format} {x : Float} → Real f x → (a : ℕ) → (mag f x ≤ a * one f) ↔ (num x ≤ a * den x)
whole_iff {f} {x} r a = (
  λ h. le_of_mul-le-mul_right (omega (arith, exact r, mul-le-mul_right (den x) h)) (one_pos f),
  λ h. le_of_mul-le-mul_right (omega (arith, exact r, mul-le-mul_right (one f) h)) (den_pos x),
)

pub within_widens : {x : Float} {a : ℕ} → Within binary32 x a → Within binary64 x a
within_widens {x} {a} p =
    record { real = real_widens p.real; bound = (whole_iff (real_widens p.real) a).1 ((whole_iff p.real a).0 p.bound) }
