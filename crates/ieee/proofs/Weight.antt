-- The value of a finite bit pattern, in units of the format, grows with the pattern. Assumes nothing.
use Rattle.std.proofs.Common.{◌≡◌, ℕ, zero, suc, ◌+◌, ◌*◌, ◌/◌, ◌%◌, ◌^◌, ◌<◌, ◌≤◌, ◌⊎◌, ◌↔◌, ap, subst, inl, inr, le_trans, le_of_eq, lt_of_lt_of_le, le_of_suc-le-suc, le_of_lt, mul-le-mul_right, mod-lt, eq-or-lt_of_le, mul-le-mul_left, mul-lt-mul_of_pos_right, pow-suc, div-add-mod', le-div_iff_mul-le, not-le_of_lt, div-mul-le_self, arith, pow_pos, pow_mono}
use Rattle.laws.proofs.Numbers.{le_of_not_lt}

-- an exponent's field and the digits below the leading one, of which there are as many as make h: a field of 0 has no leading digit
unfoldable pub weigh : ℕ → ℕ → ℕ → ℕ
weigh h zero t = t
weigh h (suc x) t = (h + t) * 2 ^ x

-- a pattern without its sign
unfoldable pub weight : ℕ → ℕ → ℕ
weight h r = weigh h (r / h) (r % h)

digits_lt : (h x t u : ℕ) → t < u → weigh h x t < weigh h x u
unfolding weigh
digits_lt h zero t u l = l
digits_lt h (suc x) t u l = mul-lt-mul_of_pos_right (omega arith) (pow_pos x)

below_next : (h x t : ℕ) → t < h → weigh h x t < h * 2 ^ x
unfolding weigh
below_next h zero t l = omega arith
below_next h (suc x) t l =
    omega (arith, mul-lt-mul_of_pos_right {m = h + t} {n = h + h} (omega arith) (pow_pos x), ap (λ (z : ℕ). h * z) (pow-suc 2 x))

from_next : (h x y u : ℕ) → x < y → h * 2 ^ x ≤ weigh h y u
unfolding weigh
from_next h x zero u l = elim l [ ]
from_next h x (suc y) u l = le_trans (mul-le-mul_left h (pow_mono (le_of_suc-le-suc l))) (mul-le-mul_right (2 ^ y) (omega arith))

div_le : (h r k : ℕ) → 0 < h → r ≤ k → r / h ≤ k / h
div_le h r k H l = (le-div_iff_mul-le H).1 (le_trans (div-mul-le_self r h) l)

weight_lt : (h r k : ℕ) → 0 < h → r < k → weight h r < weight h k
unfolding weight
weight_lt h r k H l = go (eq-or-lt_of_le (div_le h r k H (le_of_lt l)))
  where
    go : (r / h ≡ k / h) ⊎ (r / h < k / h) → weigh h (r / h) (r % h) < weigh h (k / h) (k % h)
    go (inl e) =
        subst (λ (x : ℕ). weigh h (r / h) (r % h) < weigh h x (k % h)) e
        (digits_lt h (r / h) (r % h) (k % h) (omega (arith, div-add-mod' r h, div-add-mod' k h, ap (λ (z : ℕ). z * h) e)))
    go (inr g) = lt_of_lt_of_le (below_next h (r / h) (r % h) (mod-lt r H)) (from_next h (r / h) (k / h) (k % h) g)

pub weight_le : (h r k : ℕ) → 0 < h → (r ≤ k) ↔ (weight h r ≤ weight h k)
weight_le h r k H = (
  λ l. elim (eq-or-lt_of_le l) [ inl e ↦ le_of_eq (ap (weight h) e) | inr g ↦ le_of_lt (weight_lt h r k H g) ],
  λ l. le_of_not_lt (λ (g : k < r). not-le_of_lt (weight_lt h k r H g) l),
)
