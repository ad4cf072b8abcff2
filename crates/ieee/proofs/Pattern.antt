-- A bit pattern's value in units of its format: with its sign taken off, a pattern compares as its magnitude does. Assumes nothing.
use Rattle.std.proofs.Common.{◌≡◌, ℕ, zero, suc, ◌+◌, ◌-◌, ◌*◌, ◌/◌, ◌%◌, ◌^◌, ◌<◌, ◌≤◌, Bool, true, false, cond, not, T, eqb, leb, ◌↔◌, sym, ap, ◌∙◌, subst, le_of_suc-le-suc, mod-lt, mod-eq_of_lt, zero-lt-suc, mul_comm, div-lt_iff_lt-mul, mul-pos, mul-one, arith, eqb→eq, pow_pos}
use native.Mathlib.Nat.{mod-mod_of_dvd, dvd-mul_right}
use lib.Dec.{not_T}
use lib.Arith.{lt→nleb, le→nltb, lt_of_le-ne}
use lib.Ieee.{Float, nan, inf, Format, prec, low, odd, neg, le, hid, ones, top, of_fields, of_bits, nan_bits}
use lib.Ieee.Fits.{eq→eqb}
use lib.Ieee.Bits.{is_false, cond_no, of_bits-fits, nan_bits_above}
use lib.Ieee.Exact.{HasValue, odd_sign}
use lib.Ieee.Scale.{finite}
use Rattle.ieee.specs.Inner.Value.{one, mag, over, under, Real}
use Rattle.ieee.proofs.Value.{value_finite, value_mag, value_over, value_under, neg_real, neg_over, neg_under}
use Rattle.ieee.proofs.Order.{le_iff}
use Rattle.ieee.proofs.Weight.{weigh, weight, weight_le}

-- ---- a pattern's fields

pub hid_pos : (f : Format) → 0 < hid f
hid_pos f = pow_pos (prec f - 1)

-- a pattern whose magnitude is an infinity's at most is no NaN's
pub number_bits : (f : Format) (b : ℕ) → b % top f ≤ ones f * hid f → T (not (nan_bits f b))
number_bits f b h = subst (λ (t : Bool). T (not t)) (sym (nan_bits_above f b)) (le→nltb (ones f * hid f) (b % top f) h)

not_ones : (f : Format) (x : ℕ) → x < ones f → T (not (eqb x (ones f)))
not_ones f x l = not_T (eqb x (ones f)) (λ t. omega (arith, eqb→eq x (ones f) t))

pub fields_value : (f : Format) (s : Bool) (x t : ℕ) → x < ones f → HasValue (of_fields f s x t) s (weigh (hid f) x t) (one f)
unfolding of_fields weigh one
fields_value f s zero t l = subst (λ (n : ℕ). HasValue (odd (prec f) s t 0 (low f)) s n (2 ^ low f)) (mul-one t) (odd_sign (prec f) s t 0 (low f))
fields_value f s (suc x) t l =
    subst (λ (v : Float). HasValue v s ((hid f + t) * 2 ^ x) (2 ^ low f))
    (sym (cond_no (eqb (suc x) (ones f)) (cond (eqb t 0) (inf s) nan) (odd (prec f) s (hid f + t) x (low f)) (not_ones f (suc x) l)))
    (odd_sign (prec f) s (hid f + t) x (low f))

fields_finite : (f : Format) (s : Bool) (x t : ℕ) → x ≤ ones f → T (finite (of_fields f s x t)) → x < ones f
unfolding of_fields
fields_finite f s zero t l h = omega arith
fields_finite f s (suc x) t l h = go (eqb (suc x) (ones f)) (eqb t 0) (odd (prec f) s (hid f + t) x (low f)) (λ e. eq→eqb e) h
  where
    go : (a b : Bool) (v : Float) → (suc x ≡ ones f → T a) → T (finite (cond a (cond b (inf s) nan) v)) → suc x < ones f
    go true true v e u = absurd u
    go true false v e u = absurd u
    go false b v e u = lt_of_le-ne l e

module _ (f : Format) (b : ℕ) where
  exponent_in : b % top f / hid f ≤ ones f
  exponent_in =
      le_of_suc-le-suc
      ((div-lt_iff_lt-mul (hid_pos f)).1
      (subst (λ (n : ℕ). b % top f < n) (mul_comm (hid f) (suc (ones f))) (mod-lt b (mul-pos (hid_pos f) (zero-lt-suc (ones f))))))

  -- the digits of the whole pattern are those of the pattern without its sign
  digits : b % top f % hid f ≡ b % hid f
  digits = mod-mod_of_dvd (hid f) b (dvd-mul_right (hid f) (suc (ones f)))

  pub finite_pattern : T (finite (of_bits f b)) → b % top f < ones f * hid f
  unfolding of_bits
  finite_pattern t = (div-lt_iff_lt-mul (hid_pos f)).0 (fields_finite f (leb (top f) b) (b % top f / hid f) (b % hid f) exponent_in t)

  module _ (l : b % top f < ones f * hid f) where
    pattern_value : HasValue (of_bits f b) (leb (top f) b) (weight (hid f) (b % top f)) (one f)
    unfolding of_bits weight
    pattern_value =
        let s = leb (top f) b in
        let x = b % top f / hid f in
        subst (λ (t : ℕ). HasValue (of_fields f s x (b % hid f)) s (weigh (hid f) x t) (one f)) (sym digits)
        (fields_value f s x (b % hid f) ((div-lt_iff_lt-mul (hid_pos f)).1 l))

    pub pattern_real : Real f (of_bits f b)
    pattern_real = record {
      is_finite = value_finite (of_bits f b) (leb (top f) b) (weight (hid f) (b % top f)) (one f) pattern_value;
      is_held = of_bits-fits f b;
    }

    pub pattern_mag : mag f (of_bits f b) ≡ weight (hid f) (b % top f)
    pattern_mag = value_mag f (of_bits f b) (leb (top f) b) (weight (hid f) (b % top f)) pattern_value

    pub pattern_over : over f (of_bits f b) ≡ cond (leb (top f) b) 0 (mag f (of_bits f b))
    pattern_over = value_over f (of_bits f b) (leb (top f) b) (weight (hid f) (b % top f)) (one f) pattern_value

    pub pattern_under : under f (of_bits f b) ≡ cond (leb (top f) b) (mag f (of_bits f b)) 0
    pattern_under = value_under f (of_bits f b) (leb (top f) b) (weight (hid f) (b % top f)) (one f) pattern_value

-- ---- a finite pattern k without a sign: its value as a limit

module _ (f : Format) (k : ℕ) (l : k < ones f * hid f) where
  small : k < top f
  small = omega (arith, hid_pos f)

  unsigned : k % top f ≡ k
  unsigned = mod-eq_of_lt small

  plus : leb (top f) k ≡ false
  plus = is_false (leb (top f) k) (lt→nleb (top f) k small)

  in_range_law : k % top f < ones f * hid f
  in_range_law = subst (λ (n : ℕ). n < ones f * hid f) (sym unsigned) l

  pub limit_real : Real f (of_bits f k)
  limit_real = pattern_real f k in_range_law

  pub limit_mag : mag f (of_bits f k) ≡ weight (hid f) k
  limit_mag = pattern_mag f k in_range_law ∙ ap (weight (hid f)) unsigned

  pub limit_over : over f (of_bits f k) ≡ mag f (of_bits f k)
  limit_over = pattern_over f k in_range_law ∙ ap (λ (s : Bool). cond s 0 (mag f (of_bits f k))) plus

  pub limit_under : under f (of_bits f k) ≡ 0
  limit_under = pattern_under f k in_range_law ∙ ap (λ (s : Bool). cond s (mag f (of_bits f k)) 0) plus

  pub at_least : {x : Float} → Real f x → T (le (neg (of_bits f k)) x) ↔ (under f x ≤ over f x + mag f (of_bits f k))
  at_least r =
      let i = le_iff (neg_real limit_real) r in
      let o : over f (neg (of_bits f k)) ≡ 0 = neg_over f (of_bits f k) ∙ limit_under in
      let u : under f (neg (of_bits f k)) ≡ mag f (of_bits f k) = neg_under f (of_bits f k) ∙ limit_over in
      (λ h. omega (arith, i.0 h), λ h. i.1 (omega arith))

  pub at_most : {x : Float} → Real f x → T (le x (of_bits f k)) ↔ (over f x ≤ under f x + mag f (of_bits f k))
  at_most r =
      let i = le_iff r limit_real in
      (λ h. omega (arith, i.0 h, limit_over, limit_under), λ h. i.1 (omega (arith, limit_over, limit_under)))

  -- a finite pattern is compared with the limit without its sign
  pub pattern_le : (b : ℕ) → b % top f < ones f * hid f → (b % top f ≤ k) ↔ (mag f (of_bits f b) ≤ mag f (of_bits f k))
  pattern_le b h =
      subst (λ (m : ℕ). (b % top f ≤ k) ↔ (m ≤ mag f (of_bits f k))) (sym (pattern_mag f b h))
      (subst (λ (m : ℕ). (b % top f ≤ k) ↔ (weight (hid f) (b % top f) ≤ m)) (sym limit_mag) (weight_le (hid f) (b % top f) k (hid_pos f)))
