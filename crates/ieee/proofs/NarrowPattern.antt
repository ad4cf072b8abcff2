-- The bit pattern of a rounded value, in any format. Of a fraction that is `kept` * 2 ^ `drop` of the format's smallest values once it
-- is rounded, the pattern is drop * hid + kept, and an infinity's from there on: a carry out of the digits goes into the exponent's
-- field by itself, and so does the step from the subnormal values to the normal ones.
use Rattle.std.proofs.Common.{◌≡◌, ℕ, zero, suc, ◌+◌, ◌-◌, ◌*◌, ◌/◌, ◌%◌, ◌^◌, ◌<◌, ◌≤◌, min, Bool, true, false, cond, not, T, ltb, ◌⊎◌, sym, refl, ap, ◌∙◌, subst, inl, inr, le_trans, le_of_eq, lt_of_lt_of_le, lt_of_le_of_lt, add_assoc, lt_irrefl, mul-le-mul_right, add-mul, eq-or-lt_of_le, le-div_iff_mul-le, le_of_mul-le-mul_right, mul-div_cancel, arith, ltb→lt, nltb→le, pow_pos, pow-add}
use Prim.Native.Nat.{compare}
use native.Mathlib.Nat.{div-div-eq-div-mul, min-eq_left, min-eq_right}
use lib.Pow.{pow-lt}
use lib.Ieee.{Float, nan, inf, fin, Format, binary32, binary64, prec, emax, low, up, down, size, units, odd, round, hid, ones, top, to_bits}
use lib.Ieee.Digits.{size_reaches}
use lib.Ieee.Fits.{nearest-le, kept-lt, round_is, two, two-le_pos, down_pos}
use lib.Ieee.Exact.{HasValue, odd_sign}
use lib.Ieee.Nearest.{nearest-ge}
use lib.Ieee.Order.{drop, kept}
use lib.Ieee.Scale.{overflow}
use Rattle.laws.proofs.Numbers.{le_of_not_lt}
use Rattle.ieee.proofs.Coded.{pow_lt_back, twice_half, coded, coded_is}

-- ---- the pattern of a finite value, by its size in units of the smallest value
pub to_bits_value : (f : Format) (v : Float) (s : Bool) (a : ℕ) → HasValue v s a (2 ^ low f) → to_bits f v ≡ cond s (top f) 0 + coded (prec f) a
unfolding to_bits coded
to_bits_value f nan s a h = absurd h
to_bits_value f (inf t) s a h = absurd h
to_bits_value f (fin t m e) s a h =
    let n_is : m * up e * 2 ^ low f / down e ≡ a = ap (λ (x : ℕ). x / down e) h.1 ∙ mul-div_cancel a (down_pos e) in
    ap (λ (x : ℕ). cond t (top f) 0 + (size x - prec f) * hid f + x / 2 ^ (size x - prec f)) n_is
    ∙ ap (λ (b : Bool). cond b (top f) 0 + (size a - prec f) * hid f + a / 2 ^ (size a - prec f)) h.0
    ∙ add_assoc (cond s (top f) 0) ((size a - prec f) * hid f) (a / 2 ^ (size a - prec f))

-- ---- how many digits `round` drops, and what it keeps
kept_le : (p n den : ℕ) → kept p n den ≤ 2 ^ p
kept_le p n den =
    let u = den * 2 ^ drop p n den in
    le_trans (nearest-le (n / u) (compare (n % u * 2) u)) (subst (λ (x : ℕ). x < 2 ^ p) (div-div-eq-div-mul n den (2 ^ drop p n den)) (kept-lt p (n / den)))

kept_ge : (p n den : ℕ) → 0 < p → 0 < drop p n den → 2 ^ (p - 1) ≤ kept p n den
kept_ge p n den P K =
    let k = drop p n den in
    let w = n / den in
    let a : 2 ^ (p - 1) * 2 ^ k ≤ w = le_trans (le_of_eq (sym (pow-add 2 (p - 1) k))) (size_reaches w (p - 1 + k) (omega arith)) in
    le_trans (subst (λ (x : ℕ). 2 ^ (p - 1) ≤ x) (div-div-eq-div-mul n den (2 ^ k)) ((le-div_iff_mul-le (pow_pos k)).1 a)) (nearest-ge (n / (den * 2 ^ k)) (compare (n % (den * 2 ^ k) * 2) (den * 2 ^ k)))

-- ---- k * hid + q is below an infinity's pattern exactly where q * 2 ^ k is below the overflow border
module _ (p o q k : ℕ) (P : 0 < p) (O : 2 < o) (le : q ≤ 2 ^ p) (lead : 0 < k → 2 ^ (p - 1) ≤ q) where
  room : k + 2 ≤ o → k * 2 ^ (p - 1) + q ≤ o * 2 ^ (p - 1)
  room h = omega (arith, add-mul k 2 (2 ^ (p - 1)), mul-le-mul_right (2 ^ (p - 1)) h, twice_half p P)

  small : (j : ℕ) → (0 < j → 2 ^ (p - 1) ≤ q) → q * 2 ^ j < 2 ^ (p + (o - 2)) → j + 2 ≤ o
  small zero l h = omega arith
  small (suc j) l h =
      let a : 2 ^ (p - 1 + suc j) ≤ q * 2 ^ suc j = le_trans (le_of_eq (pow-add 2 (p - 1) (suc j))) (mul-le-mul_right (2 ^ suc j) (l (omega arith))) in
      omega (arith, pow_lt_back (p - 1 + suc j) (p + (o - 2)) (lt_of_le_of_lt a h))

  under : q * 2 ^ k < 2 ^ (p + (o - 2)) → k * 2 ^ (p - 1) + q ≤ o * 2 ^ (p - 1)
  under h = room (small k lead h)

  over : 2 ^ (p + (o - 2)) ≤ q * 2 ^ k → o * 2 ^ (p - 1) ≤ k * 2 ^ (p - 1) + q
  over h = go (eq-or-lt_of_le reaches)
    where
      at_most : q * 2 ^ k ≤ 2 ^ (p + k)
      at_most = le_trans (mul-le-mul_right (2 ^ k) le) (le_of_eq (sym (pow-add 2 p k)))

      reaches : o - 2 ≤ k
      reaches = le_of_not_lt (λ (g : k < o - 2). lt_irrefl (2 ^ (p + k)) (lt_of_lt_of_le (pow-lt (omega arith)) (le_trans h at_most)))

      go : (o - 2 ≡ k) ⊎ (o - 2 < k) → o * 2 ^ (p - 1) ≤ k * 2 ^ (p - 1) + q
      go (inl e) =
          let full : 2 ^ p ≤ q = le_of_mul-le-mul_right (le_trans (le_of_eq (sym (pow-add 2 p k) ∙ ap (λ (x : ℕ). 2 ^ (p + x)) (sym e))) h) (pow_pos k) in
          let o_is : o ≡ k + 2 = omega arith in
          omega (arith, ap (λ (x : ℕ). x * 2 ^ (p - 1)) o_is, add-mul k 2 (2 ^ (p - 1)), twice_half p P)
      go (inr l) =
          let o_le : o ≤ k + 1 = omega arith in
          omega (arith, mul-le-mul_right (2 ^ (p - 1)) o_le, add-mul k 1 (2 ^ (p - 1)), lead (omega arith))

-- ---- the pattern of num / den, rounded
unfoldable pub pattern : Format → ℕ → ℕ → ℕ
pattern f num den = min (drop (prec f) (num * 2 ^ low f) den * hid f + kept (prec f) (num * 2 ^ low f) den) (ones f * hid f)

pub to_bits_inf : (f : Format) (s : Bool) → to_bits f (inf s) ≡ cond s (top f) 0 + ones f * hid f
unfolding to_bits
to_bits_inf f s = refl

-- the border of `units`, as a power of the precision and the highest field
border : (f : Format) → low f + suc (emax f) ≡ prec f + (ones f - 2)
border binary32 = refl
border binary64 = refl

some_fields : (f : Format) → 2 < ones f
some_fields binary32 = omega arith
some_fields binary64 = omega arith

to_bits_units : (f : Format) (s : Bool) (q k : ℕ) → q ≤ 2 ^ prec f → (0 < k → hid f ≤ q) → to_bits f (units f s q k) ≡ cond s (top f) 0 + min (k * hid f + q) (ones f * hid f)
unfolding units
to_bits_units f s q k le lead = go (ltb (q * 2 ^ k) (overflow f)) (ltb→lt (q * 2 ^ k) (overflow f)) (nltb→le (q * 2 ^ k) (overflow f))
  where
    P : 0 < prec f
    P = two-le_pos (prec f) (two f)

    go : (b : Bool) → (T b → q * 2 ^ k < overflow f) → (T (not b) → overflow f ≤ q * 2 ^ k)
        → to_bits f (cond b (odd (suc (prec f)) s q k (low f)) (inf s)) ≡ cond s (top f) 0 + min (k * hid f + q) (ones f * hid f)
    go true x y =
        to_bits_value f (odd (suc (prec f)) s q k (low f)) s (q * 2 ^ k) (odd_sign (suc (prec f)) s q k (low f))
        ∙ ap (λ (n : ℕ). cond s (top f) 0 + n)
        (coded_is (prec f) q k P le lead ∙ sym (min-eq_left (under (prec f) (ones f) q k P (some_fields f) le lead (subst (λ (j : ℕ). q * 2 ^ k < 2 ^ j) (border f) (x tt)))))
    go false x y =
        to_bits_inf f s
        ∙ ap (λ (n : ℕ). cond s (top f) 0 + n) (sym (min-eq_right (over (prec f) (ones f) q k P (some_fields f) le lead (subst (λ (j : ℕ). 2 ^ j ≤ q * 2 ^ k) (border f) (y tt)))))

pub to_bits_round : (f : Format) (s : Bool) (num den : ℕ) → to_bits f (round f s num den) ≡ cond s (top f) 0 + pattern f num den
unfolding pattern
to_bits_round f s num den =
    ap (to_bits f) (round_is f s num den)
    ∙ to_bits_units f s (kept (prec f) (num * 2 ^ low f) den) (drop (prec f) (num * 2 ^ low f) den) (kept_le (prec f) (num * 2 ^ low f) den)
    (kept_ge (prec f) (num * 2 ^ low f) den (two-le_pos (prec f) (two f)))
