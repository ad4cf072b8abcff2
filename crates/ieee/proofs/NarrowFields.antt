-- What narrowing makes of the sign, the exponent's field and the digits of an f64: the sign stays, and the rest of the pattern
-- is the rest of the f64's, rounded.
use Rattle.std.proofs.Common.{◌≡◌, ℕ, zero, suc, ◌+◌, ◌-◌, ◌*◌, ◌/◌, ◌%◌, ◌^◌, ◌<◌, ◌≤◌, Bool, true, false, cond, not, T, ltb, leb, ◌⊎◌, sym, refl, ap, ◌∙◌, subst, inl, inr, mod-eq_of_lt, zero-add, mul-one, arith, ltb→lt, leb→le, nltb→le, pow_pos}
use borrow.Author.Tests.{lt-leb}
use lib.Dec.{nleb→lt}
use lib.Ieee.{Float, nan, inf, fin, Format, binary32, binary64, low, up, down, round, hid, ones, top, of_fields, of_bits, to_bits, is_nan, fits}
use lib.Ieee.Fits.{down_pos, round-fits, nan-fits, inf-fits}
use lib.Ieee.Bits.{nan_bits_is, nan_bits_above, of_bits-to_bits, to_bits-lt}
use lib.Ieee.Exact.{HasValue}
use lib.Ieee.Scale.{round_same}
use Rattle.ieee.specs.Inner.Value.{one}
use Rattle.ieee.specs.Convert.{narrowed}
use Rattle.ieee.proofs.Rounding.{round_number}
use Rattle.ieee.proofs.Weight.{weigh}
use Rattle.ieee.proofs.Pattern.{fields_value}
use Rattle.ieee.proofs.NarrowPattern.{pattern, to_bits_round}

-- ---- narrowing sees only the value
pub narrowed_value : (v : Float) (s : Bool) (a c : ℕ) → 0 < c → HasValue v s a c → narrowed v ≡ round binary32 s a c
unfolding narrowed
narrowed_value nan s a c C h = absurd h
narrowed_value (inf t) s a c C h = absurd h
narrowed_value (fin t m e) s a c C h = ap (λ (b : Bool). round binary32 b (m * up e) (down e)) h.0 ∙ round_same binary32 s (m * up e) (down e) a c (down_pos e) C h.1

pub narrowed_fits : (v : Float) → T (fits binary32 (narrowed v))
unfolding narrowed
narrowed_fits nan = nan-fits binary32
narrowed_fits (inf s) = inf-fits binary32 s
narrowed_fits (fin s m e) = round-fits binary32 s (m * up e) (down e)

-- ---- the value of three fields: the digits, with the leading one where the exponent's field is not 0
abbrev pub significand : Format → ℕ → ℕ → ℕ
significand f zero t = t
significand f (suc x) t = hid f + t

weighs : (f : Format) (x t : ℕ) → weigh (hid f) x t ≡ significand f x t * 2 ^ (x - 1)
unfolding weigh
weighs f zero t = sym (mul-one t)
weighs f (suc x) t = let e : x ≡ suc x - 1 = omega arith in ap (λ (j : ℕ). (hid f + t) * 2 ^ j) e

digits_value : (f : Format) (s : Bool) (x t : ℕ) → x < ones f → HasValue (of_fields f s x t) s (significand f x t * 2 ^ (x - 1)) (2 ^ low f)
unfolding one
digits_value f s x t h = subst (λ (n : ℕ). HasValue (of_fields f s x t) s n (2 ^ low f)) (weighs f x t) (fields_value f s x t h)

-- ---- the pattern of narrowed fields
pub finite_pattern : (s : Bool) (x t : ℕ) → x < ones binary64
    → to_bits binary32 (narrowed (of_fields binary64 s x t)) ≡ cond s (top binary32) 0 + pattern binary32 (significand binary64 x t * 2 ^ (x - 1)) (2 ^ low binary64)
finite_pattern s x t h =
    ap (to_bits binary32) (narrowed_value (of_fields binary64 s x t) s (significand binary64 x t * 2 ^ (x - 1)) (2 ^ low binary64) (pow_pos (low binary64)) (digits_value binary64 s x t h))
    ∙ to_bits_round binary32 s (significand binary64 x t * 2 ^ (x - 1)) (2 ^ low binary64)

pub infinite_pattern : (s : Bool) (x t : ℕ) → x ≡ ones binary64 → t ≡ 0 → to_bits binary32 (narrowed (of_fields binary64 s x t)) ≡ cond s (top binary32) 0 + ones binary32 * hid binary32
unfolding narrowed of_fields to_bits
infinite_pattern s x t e z = ap (λ (y : ℕ). to_bits binary32 (narrowed (of_fields binary64 s y t))) e ∙ ap (λ (y : ℕ). to_bits binary32 (narrowed (of_fields binary64 s (ones binary64) y))) z

-- A pattern's fields that are no NaN's
abbrev pub Number : ℕ → ℕ → Type 0
Number x t = (x < ones binary64) ⊎ ((x ≡ ones binary64) × (t ≡ 0))

sign_apart : (s : Bool) (x t : ℕ) → Number x t → to_bits binary32 (narrowed (of_fields binary64 s x t)) ≡ cond s (top binary32) 0 + to_bits binary32 (narrowed (of_fields binary64 false x t))
sign_apart s x t (inl h) = finite_pattern s x t h ∙ ap (λ (n : ℕ). cond s (top binary32) 0 + n) (sym (finite_pattern false x t h ∙ zero-add (pattern binary32 (significand binary64 x t * 2 ^ (x - 1)) (2 ^ low binary64))))
sign_apart s x t (inr h) = infinite_pattern s x t h.0 h.1 ∙ ap (λ (n : ℕ). cond s (top binary32) 0 + n) (sym (infinite_pattern false x t h.0 h.1))

-- ---- of a whole pattern
of_bits_is : (f : Format) (b : ℕ) → of_bits f b ≡ of_fields f (leb (top f) b) (b % top f / hid f) (b % hid f)
unfolding of_bits
of_bits_is f b = refl

-- the fields of a magnitude up to the infinity's
pub number : (m : ℕ) → m ≤ ones binary64 * hid binary64 → Number (m / hid binary64) (m % hid binary64)
number m h = go (ltb (m / hid binary64) (ones binary64)) (ltb→lt (m / hid binary64) (ones binary64)) (nltb→le (m / hid binary64) (ones binary64))
  where
    go : (b : Bool) → (T b → m / hid binary64 < ones binary64) → (T (not b) → ones binary64 ≤ m / hid binary64) → Number (m / hid binary64) (m % hid binary64)
    go true x y = inl (x tt)
    go false x y = let g = y tt in inr (omega arith)

pub magnitude_fields : (m : ℕ) → m < top binary64 → of_bits binary64 m ≡ of_fields binary64 false (m / hid binary64) (m % hid binary64)
magnitude_fields m h =
    of_bits_is binary64 m
    ∙ ap (λ (b : Bool). of_fields binary64 b (m % top binary64 / hid binary64) (m % hid binary64)) (lt-leb (top binary64) m h)
    ∙ ap (λ (r : ℕ). of_fields binary64 false (r / hid binary64) (m % hid binary64)) (mod-eq_of_lt h)

-- no NaN: the magnitude is an infinity's at most
no_nan : (b : ℕ) → T (not (is_nan (of_bits binary64 b))) → b % top binary64 ≤ ones binary64 * hid binary64
no_nan b h = nltb→le (ones binary64 * hid binary64) (b % top binary64) (subst (λ (t : Bool). T (not t)) (sym (nan_bits_is binary64 b) ∙ nan_bits_above binary64 b) h)

sign_bit : (b : ℕ) → b < 2 * top binary64 → cond (leb (top binary64) b) (top binary32) 0 ≡ b / top binary64 * top binary32
sign_bit b w = go (leb (top binary64) b) (leb→le (top binary64) b) (nleb→lt (top binary64) b)
  where
    go : (t : Bool) → (T t → top binary64 ≤ b) → (T (not t) → b < top binary64) → cond t (top binary32) 0 ≡ b / top binary64 * top binary32
    go true x y = let g = x tt in omega arith
    go false x y = let g = y tt in omega arith

-- The sign's bit goes over as it is, and the magnitude is narrowed by itself.
narrowed_sign : (b : ℕ) → b < 2 * top binary64 → T (not (is_nan (of_bits binary64 b)))
    → to_bits binary32 (narrowed (of_bits binary64 b)) ≡ b / top binary64 * top binary32 + to_bits binary32 (narrowed (of_bits binary64 (b % top binary64)))
narrowed_sign b w h =
    let m = b % top binary64 in
    let digits : b % hid binary64 ≡ m % hid binary64 = omega arith in
    ap (λ (v : Float). to_bits binary32 (narrowed v)) (of_bits_is binary64 b ∙ ap (of_fields binary64 (leb (top binary64) b) (m / hid binary64)) digits)
    ∙ sign_apart (leb (top binary64) b) (m / hid binary64) (m % hid binary64) (number m (no_nan b h))
    ∙ ap (λ (n : ℕ). n + to_bits binary32 (narrowed (of_fields binary64 false (m / hid binary64) (m % hid binary64)))) (sign_bit b w)
    ∙ ap (λ (v : Float). b / top binary64 * top binary32 + to_bits binary32 (narrowed v)) (sym (magnitude_fields m (omega arith)))

-- ---- of a value that is no NaN
pub narrowed_number : (v : Float) → T (not (is_nan v)) → T (not (is_nan (narrowed v)))
unfolding narrowed is_nan
narrowed_number nan h = h
narrowed_number (inf s) h = tt
narrowed_number (fin s m e) h = round_number binary32 s (m * up e) (down e)

module _ (v : Float) (held : T (fits binary64 v)) (h : T (not (is_nan v))) where
  read_back : T (not (is_nan (of_bits binary64 (to_bits binary64 v))))
  read_back = subst (λ (x : Float). T (not (is_nan x))) (sym (of_bits-to_bits binary64 v held)) h

  pub magnitude_le : to_bits binary64 v % top binary64 ≤ ones binary64 * hid binary64
  magnitude_le = no_nan (to_bits binary64 v) read_back

  pub narrowed_bits : to_bits binary64 v / top binary64 * top binary32 + to_bits binary32 (narrowed (of_bits binary64 (to_bits binary64 v % top binary64))) ≡ to_bits binary32 (narrowed v)
  narrowed_bits = sym (narrowed_sign (to_bits binary64 v) (to_bits-lt binary64 v held) read_back) ∙ ap (λ (x : Float). to_bits binary32 (narrowed x)) (of_bits-to_bits binary64 v held)
