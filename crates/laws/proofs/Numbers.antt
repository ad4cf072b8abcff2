-- Natural numbers: splits by their order, and places in rows of one size. Assumes nothing.
use Prim.Native.Nat.{ℕ, ◌+◌, ◌*◌, ◌≤◌, ◌<◌}
use mathlib.Core.Bool.{false}
use mathlib.Core.Path.{◌≡◌, sym, ap, subst, ◌∙◌}
use native.Mathlib.Nat.{lt_of_not-le, le_of_suc-le-suc, suc-mul, mul-le-mul_right}
use native.Mathlib.Numerals.{add-one}
use native.Mathlib.Omega.{arith}
use lib.Dec.{eqb, ltb, ltb→lt, nltb→le}
use borrow.Author.Tests.{eqb-false}
use Rattle.laws.proofs.Tests.{by_test}

-- one number is below another, or not
pub by_order {ℓ} : {A : Type ℓ} (m n : ℕ) → (m < n → A) → (n ≤ m → A) → A
by_order m n below above = by_test (ltb m n) (λ t. below (ltb→lt m n t)) (λ t. above (nltb→le m n t))

pub le_of_not_lt : {m n : ℕ} → (m < n → ⊥) → n ≤ m
le_of_not_lt h = le_of_suc-le-suc (lt_of_not-le h)

pub not_zero : (n : ℕ) → eqb n 0 ≡ false → 0 < n
not_zero n e = let ne : n ≡ 0 → ⊥ = eqb-false n 0 e in omega arith

-- ---- rows of one size, one after the other; that a place of a row is a place of the whole is `digits_lt` (`lib.Arith`)

-- the row after row n
pub next_row : (n size : ℕ) → n * size + size ≡ (n + 1) * size
next_row n size = sym (ap (λ (k : ℕ). k * size) (add-one n) ∙ suc-mul n size)

-- row i of n ends within them
pub row_within : (size : ℕ) {i n : ℕ} → i < n → i * size + size ≤ n * size
row_within size {i} {n} h = subst (λ (k : ℕ). k ≤ n * size) (suc-mul i size) (mul-le-mul_right size h)
