-- What `mag`, `over` and `under` are of a value that is known as a fraction. Assumes nothing.
use Rattle.std.proofs.Common.{◌≡◌, ℕ, zero, suc, ◌+◌, ◌-◌, ◌*◌, ◌/◌, ◌%◌, ◌^◌, ◌<◌, ◌≤◌, Bool, true, false, cond, not, ◌&&◌, T, eqb, ltb, leb, ◌⊎◌, ℤ, pos, negsuc, sym, refl, ap, ◌∙◌, inl, inr, mul_assoc, mul_comm, lt_of_mul-lt-mul_right, mul-lt-mul_of_pos_right, mul-pos, mul-one, sub-add_cancel, mul_right_comm, not-le_of_lt, mul-div_cancel, arith, ltb→lt, leb→le, pow_pos, pow-add}
use lib.Pow.{pow-lt}
use lib.Ieee.{Float, nan, inf, fin, Format, prec, emax, low, up, down, fits, is_nan, neg}
use lib.Ieee.Fits.{and_l, and_r, neg-fits}
use lib.Ieee.Exact.{HasValue}
use lib.Ieee.Scale.{finite, overflow}
use lib.Ieee.Positive.{num, den, den_pos}
use Rattle.laws.proofs.Numbers.{le_of_not_lt}
use Rattle.ieee.specs.Inner.Value.{one, mag, over, under, Real}
use Rattle.ieee.specs.Inner.Keys.{Comparable}

pub one_pos : (f : Format) → 0 < one f
unfolding one
one_pos f = pow_pos (low f)

-- ---- magnitudes

-- a fraction's value in units
pub mag_of : (f : Format) (x : Float) (n : ℕ) → num x * one f ≡ n * den x → mag f x ≡ n
unfolding mag
mag_of f x n e = ap (λ (z : ℕ). z / den x) e ∙ mul-div_cancel n (den_pos x)

pub value_cross : (x : Float) (s : Bool) (a c : ℕ) → HasValue x s a c → num x * c ≡ a * den x
value_cross nan s a c v = absurd v
value_cross (inf t) s a c v = absurd v
value_cross (fin t m e) s a c v = v.1

pub value_finite : (x : Float) (s : Bool) (a c : ℕ) → HasValue x s a c → T (finite x)
value_finite nan s a c v = absurd v
value_finite (inf t) s a c v = absurd v
value_finite (fin t m e) s a c v = tt

pub value_mag : (f : Format) (x : Float) (s : Bool) (n : ℕ) → HasValue x s n (one f) → mag f x ≡ n
value_mag f x s n v = mag_of f x n (value_cross x s n (one f) v)

pub whole_mag : (f : Format) (x : Float) (s : Bool) (n : ℕ) → HasValue x s n 1 → mag f x ≡ n * one f
whole_mag f x s n v =
    mag_of f x (n * one f) (ap (λ (z : ℕ). z * one f) (sym (mul-one (num x)) ∙ value_cross x s n 1 v) ∙ mul_right_comm n (den x) (one f))

pub value_over : (f : Format) (x : Float) (s : Bool) (a c : ℕ) → HasValue x s a c → over f x ≡ cond s 0 (mag f x)
unfolding over
value_over f nan s a c v = absurd v
value_over f (inf t) s a c v = absurd v
value_over f (fin t m e) s a c v = ap (λ (b : Bool). cond b 0 (mag f (fin t m e))) v.0

pub value_under : (f : Format) (x : Float) (s : Bool) (a c : ℕ) → HasValue x s a c → under f x ≡ cond s (mag f x) 0
unfolding under
value_under f nan s a c v = absurd v
value_under f (inf t) s a c v = absurd v
value_under f (fin t m e) s a c v = ap (λ (b : Bool). cond b (mag f (fin t m e)) 0) v.0

-- ---- of a value that the format holds nothing is cut off

scaled : (X o d q : ℕ) → o ≡ q * d → 0 < d → X * o / d * d ≡ X * o
scaled X o d q e D = ap (λ (z : ℕ). z * d) (ap (λ (z : ℕ). z / d) w ∙ mul-div_cancel (X * q) D) ∙ sym w
  where
    w : X * o ≡ X * q * d
    w = ap (λ (z : ℕ). X * z) e ∙ sym (mul_assoc X q d)

-- a power of two divides every larger one
divides : (k l : ℕ) → 2 ^ k ≤ 2 ^ l → 2 ^ l ≡ 2 ^ (l - k) * 2 ^ k
divides k l h =
    ap (λ (z : ℕ). 2 ^ z) (sym (sub-add_cancel (le_of_not_lt (λ (g : l < k). not-le_of_lt (pow-lt g) h))))
    ∙ pow-add 2 (l - k) k

held_down : (f : Format) (s : Bool) (m : ℕ) (e : ℤ) → T (fits f (fin s (suc m) e)) → down e ≤ 2 ^ low f
unfolding fits
held_down f s m e t =
    let odd = eqb (suc m % 2) 1 in
    let short = ltb (suc m) (2 ^ prec f) in
    let fine = leb (down e) (2 ^ low f) in
    leb→le (down e) (2 ^ low f) (and_r (odd && short) fine (and_l (odd && short && fine) (ltb (suc m * up e) (2 ^ suc (emax f) * down e)) t))

held_exact : (f : Format) (x : Float) → T (finite x) → T (fits f x) → mag f x * den x ≡ num x * one f
unfolding mag one
held_exact f nan t h = elim t [ ]
held_exact f (inf _) t h = elim t [ ]
held_exact f (fin s zero e) t h = ap (λ (z : ℕ). z * down e) (mag_of f (fin s zero e) 0 none) ∙ sym none
  where
    none : zero * up e * 2 ^ low f ≡ 0 * down e
    none = omega arith
held_exact f (fin s (suc m) (pos k)) t h =
    scaled (suc m * 2 ^ k) (2 ^ low f) 1 (2 ^ low f) (sym (mul-one (2 ^ low f))) (den_pos (fin s (suc m) (pos k)))
held_exact f (fin s (suc m) (negsuc k)) t h =
    scaled (suc m * 1) (2 ^ low f) (2 ^ suc k) (2 ^ (low f - suc k)) (divides (suc k) (low f) (held_down f s m (negsuc k) h)) (pow_pos (suc k))

pub exact : {f : Format} {x : Float} → Real f x → mag f x * den x ≡ num x * one f
exact {f} {x} r = held_exact f x r.is_finite r.is_held

-- ---- and it is below the overflow

held_small : (f : Format) (x : Float) → T (finite x) → T (fits f x) → num x < 2 ^ suc (emax f) * den x
unfolding fits
held_small f nan t h = elim t [ ]
held_small f (inf _) t h = elim t [ ]
held_small f (fin s zero e) t h = omega (arith, mul-pos (pow_pos (suc (emax f))) (den_pos (fin s zero e)))
held_small f (fin s (suc m) e) t h =
    ltb→lt (suc m * up e) (2 ^ suc (emax f) * down e)
    (and_r (eqb (suc m % 2) 1 && ltb (suc m) (2 ^ prec f) && leb (down e) (2 ^ low f)) (ltb (suc m * up e) (2 ^ suc (emax f) * down e)) h)

overflow_is : (f : Format) → overflow f ≡ 2 ^ suc (emax f) * one f
unfolding one
overflow_is f = pow-add 2 (low f) (suc (emax f)) ∙ mul_comm (2 ^ low f) (2 ^ suc (emax f))

pub real_small : {f : Format} {x : Float} → Real f x → mag f x < overflow f
real_small {f} {x} r =
    lt_of_mul-lt-mul_right (den x)
    (omega (
      arith,
      exact r,
      mul-lt-mul_of_pos_right (held_small f x r.is_finite r.is_held) (one_pos f),
      ap (λ (z : ℕ). z * den x) (overflow_is f),
    ))

pub finite_number : (x : Float) → T (finite x) → T (not (is_nan x))
unfolding is_nan
finite_number nan t = elim t [ ]
finite_number (inf _) t = elim t [ ]
finite_number (fin s m e) t = tt

pub real_comparable : {f : Format} {x : Float} → Real f x → Comparable f x
real_comparable r = record { held = r.is_held; number = finite_number _ r.is_finite }

-- ---- the two sides of a value

pub sides : (f : Format) (x : Float) → over f x + under f x ≡ mag f x
unfolding over under mag
sides f nan = omega arith
sides f (inf s) = omega arith
sides f (fin false m e) = omega arith
sides f (fin true m e) = omega arith

pub one_side : (f : Format) (x : Float) → (under f x ≡ 0) ⊎ (over f x ≡ 0)
unfolding over under
one_side f nan = inl refl
one_side f (inf s) = inl refl
one_side f (fin false m e) = inl refl
one_side f (fin true m e) = inr refl

-- ---- the negative

pub neg_real : {f : Format} {x : Float} → Real f x → Real f (neg x)
neg_real {f} {x} r = record { is_finite = finite_neg x r.is_finite; is_held = neg-fits f x r.is_held }
  where
    finite_neg : (x : Float) → T (finite x) → T (finite (neg x))
    finite_neg nan t = elim t [ ]
    finite_neg (inf _) t = elim t [ ]
    finite_neg (fin s m e) t = unfold neg in t

pub neg_over : (f : Format) (x : Float) → over f (neg x) ≡ under f x
unfolding neg over under mag
neg_over f nan = refl
neg_over f (inf s) = refl
neg_over f (fin true m e) = refl
neg_over f (fin false m e) = refl

pub neg_under : (f : Format) (x : Float) → under f (neg x) ≡ over f x
unfolding neg over under mag
neg_under f nan = refl
neg_under f (inf s) = refl
neg_under f (fin true m e) = refl
neg_under f (fin false m e) = refl
