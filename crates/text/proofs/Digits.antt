-- The digits that the toolchain's `io` writes are those of the definitions.
use Prim.Native.Nat.{ℕ, zero, suc, ◌-◌, ◌*◌, ◌/◌, ◌%◌, ◌^◌, ◌≤◌, ◌<◌}
use mathlib.Core.Bool.{Bool, cond}
use mathlib.Core.List.{List, [], ◌∷◌, ◌++◌}
use mathlib.Core.Path.{◌≡◌, sym, ap, subst, ◌∙◌}
use native.Mathlib.Nat.{pow-suc, pow-le-pow_right, mod-eq_of_lt}
use native.Mathlib.Omega.{arith}
use borrow.Author.Tests.{lt-ltb, le-ltb}
use Rattle.laws.proofs.Numbers.{by_order}
use Rattle.io.specs.Digits.{hex_digit_ascii, last_digits, IsDigitCount}
use Rattle.text.specs.Ascii.{decimal_in, decimal}

one_digit : (turns n : ℕ) → n < 10 → decimal_in (suc turns) n ≡ hex_digit_ascii n ∷ []
unfolding decimal_in
one_digit turns n small = ap (λ (b : Bool). cond b (hex_digit_ascii n ∷ []) (decimal_in turns (n / 10) ++ (hex_digit_ascii (n % 10) ∷ []))) (lt-ltb n 10 small)

more_digits : (turns n : ℕ) → 10 ≤ n → decimal_in (suc turns) n ≡ decimal_in turns (n / 10) ++ (hex_digit_ascii (n % 10) ∷ [])
unfolding decimal_in
more_digits turns n large = ap (λ (b : Bool). cond b (hex_digit_ascii n ∷ []) (decimal_in turns (n / 10) ++ (hex_digit_ascii (n % 10) ∷ []))) (le-ltb n 10 large)

-- A number with two digits or more has one more than a tenth of it.
module _ (k n : ℕ) (few : IsDigitCount 10 1 n (suc (suc k))) where
  large : 10 ≤ n
  large =
      let least : 10 ≤ 10 ^ suc k = pow-le-pow_right {n = 10} (omega arith) {i = 1} {j = suc k} (omega arith) in
      let one_less : suc (suc k) - 1 ≡ suc k = omega arith in
      let above : 10 ^ suc k ≤ n = subst (λ (j : ℕ). 10 ^ j ≤ n) one_less (few.2 (omega arith)) in
      omega arith

  tenth : IsDigitCount 10 1 (n / 10) (suc k)
  tenth =
      let below : n < 10 ^ suc k * 10 = subst (λ (m : ℕ). n < m) (pow-suc 10 (suc k)) few.1 in
      let one_less : suc (suc k) - 1 ≡ suc k = omega arith in
      let above : 10 ^ k * 10 ≤ n = subst (λ (m : ℕ). m ≤ n) (ap (◌^◌ 10) one_less ∙ pow-suc 10 k) (few.2 (omega arith)) in
      let k_less : suc k - 1 ≡ k = omega arith in
      (omega arith, omega arith, λ more. subst (λ (j : ℕ). 10 ^ j ≤ n / 10) (sym k_less) (omega arith))

-- any number of turns that is large enough gives the same digits
fewest_decimal : (turns k n : ℕ) → n < turns → IsDigitCount 10 1 n k → last_digits 10 k n ≡ decimal_in turns n
fewest_decimal zero k n below few = absurd (omega arith)
fewest_decimal (suc turns) zero n below few = absurd (omega arith)
fewest_decimal (suc turns) (suc zero) n below few =
    let small : n < 10 = few.1 in
    ap (λ (d : ℕ). hex_digit_ascii d ∷ []) (mod-eq_of_lt small) ∙ sym (one_digit turns n small)
fewest_decimal (suc turns) (suc (suc k)) n below few =
    let rest = fewest_decimal turns (suc k) (n / 10) (omega (arith, large k n few)) (tenth k n few) in
    ap (λ (front : List ℕ). front ++ (hex_digit_ascii (n % 10) ∷ [])) rest ∙ sym (more_digits turns n (large k n few))

pub digits_decimal : (n k : ℕ) → IsDigitCount 10 1 n k → last_digits 10 k n ≡ decimal n
unfolding decimal
digits_decimal n k few = fewest_decimal (suc n) k n (omega arith) few

-- in a base from 2 on, what is below a power of it has no more digits than that
few_digits : {base least n k : ℕ} (most : ℕ) → 1 < base → least ≤ most → n < base ^ most → IsDigitCount base least n k → k ≤ most
few_digits {base} {k = k} most two enough below few =
    by_order most k
    (λ more.
    let one_less : base ^ most ≤ base ^ (k - 1) = pow-le-pow_right {n = base} (omega arith) {i = most} {j = k - 1} (omega arith) in
    let above = few.2 (omega arith) in
    absurd (omega arith))
    (λ fine. fine)

-- a u32 has ten decimal digits at most, and eight hexadecimal digits hold it
pub ten_digits : {n k : ℕ} → n < 2 ^ 32 → IsDigitCount 10 1 n k → k ≤ 10
ten_digits below few = few_digits 10 (omega arith) (omega arith) (omega arith) few

pub eight_digits : {n k : ℕ} → n < 2 ^ 32 → IsDigitCount 16 8 n k → k ≡ 8
eight_digits below few = let most = few_digits 8 (omega arith) (omega arith) (omega arith) few in omega arith
