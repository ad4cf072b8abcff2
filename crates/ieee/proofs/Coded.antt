-- A whole number written with p digits, as `to_bits` writes a magnitude: how many digits are dropped, and those that are left.
use Rattle.std.proofs.Common.{◌≡◌, ℕ, zero, suc, ◌+◌, ◌-◌, ◌*◌, ◌/◌, ◌^◌, ◌<◌, ◌≤◌, Bool, true, false, not, T, ltb, ◌⊎◌, sym, refl, ap, ◌∙◌, subst, inl, inr, le_trans, le_of_eq, lt_of_lt_of_le, lt_of_le_of_lt, lt_irrefl, mul-le-mul_right, suc-mul, le_antisymm, eq-or-lt_of_le, lt_of_not-le, mul-one, mul-div_cancel, arith, ltb→lt, nltb→le, pow_pos, pow_mono, pow-add, shl_lt}
use native.Mathlib.Nat.{two-pow-succ}
use lib.Pow.{pow-lt}
use lib.Ieee.{size}
use lib.Ieee.Digits.{size-lt, size-le}

-- ---- powers of two
pub pow_lt_back : (i p : ℕ) → 2 ^ i < 2 ^ p → i < p
pow_lt_back i p h = lt_of_not-le (λ (g : p ≤ i). lt_irrefl (2 ^ i) (lt_of_lt_of_le h (pow_mono g)))

pub size_exact : (a n : ℕ) → 2 ^ a ≤ n → n < 2 ^ suc a → size n ≡ suc a
size_exact a n lo hi = le_antisymm (size-le n (suc a) hi) (pow_lt_back a (size n) (lt_of_le_of_lt lo (size-lt n)))

pub twice_half : (p : ℕ) → 0 < p → 2 ^ p ≡ 2 ^ (p - 1) + 2 ^ (p - 1)
twice_half p h =
    let e : p ≡ suc (p - 1) = omega arith in
    ap (λ (x : ℕ). 2 ^ x) e ∙ two-pow-succ (p - 1)

-- ---- q * 2 ^ k, written with p digits: the number that `to_bits` writes for it
unfoldable pub coded : ℕ → ℕ → ℕ
coded p n = (size n - p) * 2 ^ (p - 1) + n / 2 ^ (size n - p)

-- a number of p + k digits of which k can be dropped
coded_at : (p q k d : ℕ) → size (q * 2 ^ k) - p ≡ d → coded p (q * 2 ^ k) ≡ d * 2 ^ (p - 1) + q * 2 ^ k / 2 ^ d
unfolding coded
coded_at p q k d e = ap (λ (x : ℕ). x * 2 ^ (p - 1) + q * 2 ^ k / 2 ^ x) e

module _ (p q k : ℕ) (P : 0 < p) where
  coded_low : k ≡ 0 → q < 2 ^ (p - 1) → coded p (q * 2 ^ k) ≡ k * 2 ^ (p - 1) + q
  coded_low z h =
      let small : q * 2 ^ k < 2 ^ (p - 1) = subst (λ (j : ℕ). q * 2 ^ j < 2 ^ (p - 1)) (sym z) (subst (λ (x : ℕ). x < 2 ^ (p - 1)) (sym (mul-one q)) h) in
      let d : size (q * 2 ^ k) - p ≡ k = omega (arith, size-le (q * 2 ^ k) (p - 1) small) in
      coded_at p q k k d ∙ ap (λ (x : ℕ). k * 2 ^ (p - 1) + x) (mul-div_cancel q (pow_pos k))

  coded_mid : 2 ^ (p - 1) ≤ q → q < 2 ^ p → coded p (q * 2 ^ k) ≡ k * 2 ^ (p - 1) + q
  coded_mid lo hi =
      let a : 2 ^ (p - 1 + k) ≤ q * 2 ^ k = le_trans (le_of_eq (pow-add 2 (p - 1) k)) (mul-le-mul_right (2 ^ k) lo) in
      let e : p + k ≡ suc (p - 1 + k) = omega arith in
      let b : q * 2 ^ k < 2 ^ suc (p - 1 + k) = subst (λ (x : ℕ). q * 2 ^ k < 2 ^ x) e (shl_lt p k hi) in
      let d : size (q * 2 ^ k) - p ≡ k = omega (arith, size_exact (p - 1 + k) (q * 2 ^ k) a b) in
      coded_at p q k k d ∙ ap (λ (x : ℕ). k * 2 ^ (p - 1) + x) (mul-div_cancel q (pow_pos k))

  coded_carry : q ≡ 2 ^ p → coded p (q * 2 ^ k) ≡ k * 2 ^ (p - 1) + q
  coded_carry e =
      let n_is : q * 2 ^ k ≡ 2 ^ (p + k) = ap (λ (x : ℕ). x * 2 ^ k) e ∙ sym (pow-add 2 p k) in
      let s : size (2 ^ (p + k)) ≡ suc (p + k) = size_exact (p + k) (2 ^ (p + k)) (le_of_eq refl) (pow-lt (omega arith)) in
      let d : size (q * 2 ^ k) - p ≡ suc k = omega (arith, ap size n_is ∙ s) in
      let x : p + k ≡ p - 1 + suc k = omega arith in
      let half : q * 2 ^ k / 2 ^ suc k ≡ 2 ^ (p - 1) =
      ap (λ (n : ℕ). n / 2 ^ suc k) (n_is ∙ ap (λ (j : ℕ). 2 ^ j) x ∙ pow-add 2 (p - 1) (suc k)) ∙ mul-div_cancel (2 ^ (p - 1)) (pow_pos (suc k)) in
      coded_at p q k (suc k) d ∙ omega (arith, half, suc-mul k (2 ^ (p - 1)), e, twice_half p P)

  pub coded_is : q ≤ 2 ^ p → (0 < k → 2 ^ (p - 1) ≤ q) → coded p (q * 2 ^ k) ≡ k * 2 ^ (p - 1) + q
  coded_is h lead = go (eq-or-lt_of_le h) (ltb q (2 ^ (p - 1))) (ltb→lt q (2 ^ (p - 1))) (nltb→le q (2 ^ (p - 1)))
    where
      none : (j : ℕ) → (0 < j → 2 ^ (p - 1) ≤ q) → q < 2 ^ (p - 1) → j ≡ 0
      none zero f l = refl
      none (suc j) f l = absurd (lt_irrefl q (lt_of_lt_of_le l (f (omega arith))))

      go : (q ≡ 2 ^ p) ⊎ (q < 2 ^ p) → (b : Bool) → (T b → q < 2 ^ (p - 1)) → (T (not b) → 2 ^ (p - 1) ≤ q) → coded p (q * 2 ^ k) ≡ k * 2 ^ (p - 1) + q
      go (inl e) b x y = coded_carry e
      go (inr l) true x y = coded_low (none k lead (x tt)) (x tt)
      go (inr l) false x y = coded_mid (y tt) l
