-- The nearest whole number, by how twice the remainder compares with the divisor: what the three branches of
-- `nearest_even` return. And what its shifts and its mask are as powers of two.
use Rattle.std.proofs.Common.{◌≡◌, ℕ, suc, ◌+◌, ◌-◌, ◌*◌, ◌/◌, ◌%◌, ◌^◌, ◌<◌, true, false, sym, refl, ap, ◌∙◌, true≢false, one-mul, arith, shl_exact, eq-eqb, ne_eqb, le-leb}
use Prim.Native.Nat.{compare, Ordering}
use borrow.Author.Tests.{lt-leb}
use lib.Dec.{is_le, compare_is_eq}
use lib.Bits.{bit_and, and_mask}
use lib.Ieee.{nearest}
use lib.Ieee.Nearest.{closest}

is_lt : (o : Ordering) → is_le o ≡ true → compare_is_eq o ≡ false → o ≡ Ordering.lt
is_lt Ordering.lt h k = refl
is_lt Ordering.eq h k = absurd (true≢false k)
is_lt Ordering.gt h k = absurd (true≢false (sym h))

is_eq : (o : Ordering) → compare_is_eq o ≡ true → o ≡ Ordering.eq
is_eq Ordering.lt h = absurd (true≢false (sym h))
is_eq Ordering.eq h = refl
is_eq Ordering.gt h = absurd (true≢false (sym h))

is_gt : (o : Ordering) → is_le o ≡ false → o ≡ Ordering.gt
is_gt Ordering.lt h = absurd (true≢false h)
is_gt Ordering.eq h = absurd (true≢false h)
is_gt Ordering.gt h = refl

pub closest_down : (m u : ℕ) → m % u * 2 < u → m / u ≡ closest m u
closest_down m u h =
    let r = m % u * 2 in
    ap (nearest (m / u)) (sym (is_lt (compare r u) (le-leb r u (omega arith)) (ne_eqb r u (λ (e : r ≡ u). omega arith))))

pub closest_tie : (m u : ℕ) → m % u * 2 ≡ u → m / u + m / u % 2 ≡ closest m u
closest_tie m u h = ap (nearest (m / u)) (sym (is_eq (compare (m % u * 2) u) (eq-eqb (m % u * 2) u h)))

pub closest_up : (m u : ℕ) → u < m % u * 2 → m / u + 1 ≡ closest m u
closest_up m u h =
    let suc_is : m / u + 1 ≡ suc (m / u) = omega arith in
    suc_is ∙ ap (nearest (m / u)) (sym (is_gt (compare (m % u * 2) u) (lt-leb (m % u * 2) u h)))

pub unit_is : (by : ℕ) → by < 64 → 1 * 2 ^ by % 2 ^ 64 ≡ 2 ^ by
unit_is by h = shl_exact {a = 1} 1 by 64 (omega arith) (omega arith) ∙ one-mul (2 ^ by)

pub twice_is : (m by : ℕ) → by < 64 → bit_and m (1 * 2 ^ by % 2 ^ 64 - 1) * 2 ≡ m % 2 ^ by * 2
twice_is m by h = ap (λ (u : ℕ). bit_and m (u - 1) * 2) (unit_is by h) ∙ ap (λ (x : ℕ). x * 2) (and_mask m by)
