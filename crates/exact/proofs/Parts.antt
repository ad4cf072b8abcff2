-- A whole number as the difference of two natural numbers, `above` and `below`, of which one is 0: what sums, differences and products are
-- of these, so that a law of whole numbers is one of natural numbers. Assumes nothing.
use Prim.Native.Nat.{ℕ, zero, suc, ◌+◌, ◌-◌, ◌*◌, ◌≤◌, ◌<◌}
use mathlib.Core.Bool.{Bool, true, false, not, cond}
use mathlib.Core.Path.{◌≡◌, refl, ap, ◌∙◌}
use native.Mathlib.Omega.{arith}
use lib.Dec.{T, ltb, ltb→lt, nltb→le}
use lib.IntN.{ℤ, pos, negsuc, neg_ℤ, nat_abs, sub_ℕ, ◌+ℤ◌, ◌-ℤ◌, ◌*ℤ◌, neg_ℤ-neg_ℤ}
use Rattle.exact.specs.Apart.{above, apart, excess}
use Rattle.exact.specs.Theory.Close.{below}

pub below_pos : (n : ℕ) → below (pos n) ≡ 0
below_pos zero = refl
below_pos (suc n) = refl

pub below_neg : (a : ℤ) → below (neg_ℤ a) ≡ above a
below_neg a = ap above (neg_ℤ-neg_ℤ a)

pub abs_parts : (a : ℤ) → nat_abs a ≡ above a + below a
abs_parts (pos n) = omega (arith, below_pos n)
abs_parts (negsuc n) = omega arith

difference_parts : (m n : ℕ) → above (sub_ℕ m n) + n ≡ m + below (sub_ℕ m n)
difference_parts m n = go (ltb m n) (ltb→lt m n) (nltb→le m n)
  where
    go : (b : Bool) → (T b → m < n) → (T (not b) → n ≤ m)
        → above (cond b (negsuc (n - suc m)) (pos (m - n))) + n ≡ m + below (cond b (negsuc (n - suc m)) (pos (m - n)))
    go true l g = omega (arith, l tt)
    go false l g = omega (arith, g tt, below_pos (m - n))

pub add_parts : (a b : ℤ) → above (a +ℤ b) + (below a + below b) ≡ above a + above b + below (a +ℤ b)
add_parts (pos m) (pos n) = omega (arith, below_pos m, below_pos n, below_pos (m + n))
add_parts (pos m) (negsuc n) = omega (arith, below_pos m, difference_parts m (suc n))
add_parts (negsuc m) (pos n) = omega (arith, below_pos n, difference_parts n (suc m))
add_parts (negsuc m) (negsuc n) = omega arith

pub sub_parts : (a b : ℤ) → above (a -ℤ b) + (below a + above b) ≡ above a + below b + below (a -ℤ b)
sub_parts a b = omega (arith, add_parts a (neg_ℤ b), below_neg b)

pub mul_above : (a : ℤ) (n : ℕ) → above (a *ℤ pos n) ≡ above a * n
mul_above (pos m) n = refl
mul_above (negsuc m) n = below_pos (suc m * n) ∙ omega arith

pub mul_below : (a : ℤ) (n : ℕ) → below (a *ℤ pos n) ≡ below a * n
mul_below (pos m) n = below_pos (m * n) ∙ omega (arith, ap (λ (k : ℕ). k * n) (below_pos m))
mul_below (negsuc m) n = below_neg (pos (suc m * n))

-- ---- how far apart two numbers are, from inequalities of natural numbers

pub apart_within : (a b : ℤ) (c : ℕ) → above a + below b ≤ above b + below a + c → above b + below a ≤ above a + below b + c → apart a b ≤ c
apart_within a b c h k = go (a -ℤ b) (sub_parts a b)
  where
    go : (d : ℤ) → above d + (below a + above b) ≡ above a + below b + below d → nat_abs d ≤ c
    go (pos n) e = omega (arith, below_pos n)
    go (negsuc n) e = omega arith

pub excess_within : (a b : ℤ) (c : ℕ) → above a + below b ≤ above b + below a + c → excess a b ≤ c
excess_within a b c h = go (a -ℤ b) (sub_parts a b)
  where
    go : (d : ℤ) → above d + (below a + above b) ≡ above a + below b + below d → above d ≤ c
    go (pos n) e = omega (arith, below_pos n)
    go (negsuc n) e = omega arith

pub excess_from : (a b : ℤ) → above b + below a < above a + below b → 0 < excess a b
excess_from a b h = go (a -ℤ b) (sub_parts a b)
  where
    go : (d : ℤ) → above d + (below a + above b) ≡ above a + below b + below d → 0 < above d
    go (pos n) e = omega (arith, below_pos n)
    go (negsuc n) e = omega arith

-- and the inequalities from how far they are

pub apart_high : (a b : ℤ) → above a + below b ≤ above b + below a + apart a b
apart_high a b = omega (arith, sub_parts a b, abs_parts (a -ℤ b))

pub apart_low : (a b : ℤ) → above b + below a ≤ above a + below b + apart a b
apart_low a b = omega (arith, sub_parts a b, abs_parts (a -ℤ b))

pub excess_high : (a b : ℤ) → 0 < excess a b → above b + below a + excess a b ≤ above a + below b
excess_high a b h = go (a -ℤ b) (sub_parts a b) h
  where
    go : (d : ℤ) → above d + (below a + above b) ≡ above a + below b + below d → 0 < above d → above b + below a + above d ≤ above a + below b
    go (pos n) e h = omega (arith, below_pos n)
    go (negsuc n) e h = omega arith
