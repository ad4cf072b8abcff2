-- How far a rounded fraction lies from the exact one: half of the last place that is kept. Assumes nothing.
use Prim.Native.Nat.{ℕ, ◌+◌, ◌-◌, ◌*◌, ◌/◌, ◌%◌, ◌^◌, ◌≤◌, ◌<◌, compare, Ordering}
use mathlib.Core.Bool.{not}
use mathlib.Core.Path.{◌≡◌}
use native.Mathlib.Nat.{mul-pos, mul-le-mul_right, mod-lt, div-add-mod', div-mul-le_self, lt_of_le_of_lt, lt_of_mul-lt-mul_right}
use native.Mathlib.Omega.{arith}
use lib.Dec.{T, is_le, compare_is_eq, leb→le, nleb→lt, eqb→eq}
use lib.Pow.{pow_pos, pow_mono}
use lib.Ieee.{Format, prec, nearest, size}
use lib.Ieee.Digits.{size-le}
use lib.Ieee.Nearest.{closest}
use lib.Ieee.Order.{drop}
use Rattle.ieee.specs.Theory.Rounded.{rounding}

-- a and b, at most half of c apart
pub record Halved (a b c : ℕ) : Type 0 where
  pub high : 2 * a ≤ 2 * b + c
  pub low : 2 * b ≤ 2 * a + c

-- the nearest multiple of u
closest_near : (m u : ℕ) → 0 < u → Halved (closest m u * u) m u
closest_near m u U =
    go (compare r u) (leb→le r u) (nleb→lt r u) (eqb→eq r u) (omega (arith, mul-le-mul_right {m = q % 2} {n = 1} u (omega (arith, mod-lt q two))))
  where
    q : ℕ
    q = m / u

    r : ℕ
    r = m % u * 2

    two : 0 < 2
    two = omega arith

    whole : q * u + m % u ≡ m
    whole = div-add-mod' m u

    small : m % u < u
    small = mod-lt m U

    go : (o : Ordering) → (T (is_le o) → r ≤ u) → (T (not (is_le o)) → u < r) → (T (compare_is_eq o) → r ≡ u) → q % 2 * u ≤ u
        → Halved (nearest q o * u) m u
    go Ordering.lt l g e b = record { high = omega (arith, whole); low = omega (arith, whole, l tt) }
    go Ordering.eq l g e b = record { high = omega (arith, whole, e tt, b); low = omega (arith, whole, e tt) }
    go Ordering.gt l g e b = record { high = omega (arith, whole, g tt); low = omega (arith, whole, small) }

-- a fraction n / c below 2 ^ s, in units of the format
pub rounding_near : (f : Format) (n c s : ℕ) → 0 < c → n < 2 ^ s * c → Halved (rounding f n c * c) n (2 ^ (s - prec f) * c)
unfolding rounding
rounding_near f n c s C h =
    let d = drop (prec f) n c in
    let quotient : n / c < 2 ^ s = lt_of_mul-lt-mul_right c (lt_of_le_of_lt (div-mul-le_self n c) h) in
    let digits : size (n / c) ≤ s = size-le (n / c) s quotient in
    let place : 2 ^ d ≤ 2 ^ (s - prec f) = pow_mono {i = d} {j = s - prec f} (omega arith) in
    let near = closest_near n (c * 2 ^ d) (mul-pos C (pow_pos d)) in
    record {
      high = omega (arith, near.high, mul-le-mul_right c place);
      low = omega (arith, near.low, mul-le-mul_right c place);
    }
