-- The first and the last of some numbers that pass a test, and tests that pass one range of numbers: those that join one which, once it
-- passes, passes every higher number, and one which, where it passes, passes every lower one. Assumes nothing.
use Prim.Native.Nat.{ℕ, zero, suc, ◌+◌, ◌-◌, ◌≤◌, ◌<◌}
use mathlib.Core.Bool.{Bool, true, false, not, ◌&&◌, and-true}
use mathlib.Core.Path.{◌≡◌, refl, sym, subst}
use native.Mathlib.Nat.{le_refl}
use native.Mathlib.Omega.{arith}
use lib.Dec.{T, T_not, leb, ltb, leb→le, le→leb, ltb→lt, lt→ltb}
use lib.Ieee.Fits.{and_i, and_l, and_r}
use Rattle.laws.specs.Inner.Range.{first_from, past_last}
use Rattle.laws.proofs.Range.{past_le}
use Rattle.laws.proofs.Tests.{by_test, by_choice, same_test}

passes_is : (b : Bool) → T b → b ≡ true
passes_is false t = elim t [ ]
passes_is true t = refl

fails_is : (b : Bool) → T (not b) → b ≡ false
fails_is true t = elim t [ ]
fails_is false t = refl

module _ (test : ℕ → Bool) where
  -- a number that passes is not one that fails
  other_than : {failing i : ℕ} → T (not (test failing)) → T (test i) → failing ≡ i → ⊥
  other_than {failing} fails t e = T_not (test failing) fails (subst (λ (m : ℕ). T (test m)) (sym e) t)

  -- ---- the first of the n numbers from `at` on that passes

  -- where one passes, what is found passes
  pub first_passes : (other at n i : ℕ) → at ≤ i → i < at + n → T (test i) → T (test (first_from other test at n))
  unfolding first_from
  first_passes other at zero i h k t = absurd (omega arith)
  first_passes other at (suc n) i h k t =
      by_choice (λ (found : ℕ). T (test found)) (test at) (λ passes. passes) λ fails.
      let later : at ≡ i → ⊥ = other_than fails t in
      first_passes other (suc at) n i (omega arith) (omega arith) t

  -- and none before it does
  pub first_least : (other at n i : ℕ) → at ≤ i → i < at + n → T (test i) → first_from other test at n ≤ i
  unfolding first_from
  first_least other at zero i h k t = omega arith
  first_least other at (suc n) i h k t =
      by_choice (λ (found : ℕ). found ≤ i) (test at) (λ passes. h) λ fails.
      let later : at ≡ i → ⊥ = other_than fails t in
      first_least other (suc at) n i (omega arith) (omega arith) t

  -- where none passes it is the other number
  pub first_none : (other at n : ℕ) → ((i : ℕ) → at ≤ i → i < at + n → T (test i) → ⊥) → first_from other test at n ≡ other
  unfolding first_from
  first_none other at zero none = refl
  first_none other at (suc n) none =
      by_choice (λ (found : ℕ). found ≡ other) (test at) (λ passes. absurd (none at (le_refl at) (omega arith) passes))
      (λ fails. first_none other (suc at) n (λ i h k. none i (omega arith) (omega arith)))

  -- so what is not the other number passes
  pub first_other : (other at n : ℕ) → (first_from other test at n ≡ other → ⊥) → T (test (first_from other test at n))
  unfolding first_from
  first_other other at zero found = absurd (found refl)
  first_other other at (suc n) found =
      by_choice (λ (first : ℕ). (first ≡ other → ⊥) → T (test first)) (test at) (λ passes _. passes)
      (λ fails. first_other other (suc at) n) found

  -- none before what is found passes
  pub first_before : (other at n i : ℕ) → at ≤ i → i < at + n → i < first_from other test at n → test i ≡ false
  first_before other at n i h k below =
      by_test (test i) (λ passes. absurd (let least = first_least other at n i h k passes in omega arith)) (λ fails. fails_is (test i) fails)

  -- where `other` is past all of them, what is found is not past it, and it passes unless it is `other`
  pub first_within : (other at n : ℕ) → at + n ≤ other → first_from other test at n ≤ other
  unfolding first_from
  first_within other at zero h = le_refl other
  first_within other at (suc n) h =
      by_choice (λ (found : ℕ). found ≤ other) (test at) (λ passes. omega arith) (λ fails. first_within other (suc at) n (omega arith))

  pub first_found : (other at n : ℕ) → first_from other test at n < other → test (first_from other test at n) ≡ true
  first_found other at n h = passes_is (test (first_from other test at n)) (first_other other at n (λ e. omega arith))

  -- ---- the last of the numbers below n that passes

  -- what stands before it passes
  pub past_passes : (n : ℕ) → 0 < past_last test n → T (test (past_last test n - 1))
  unfolding past_last
  past_passes zero h = absurd (omega arith)
  past_passes (suc n) h =
      let last : n ≡ suc n - 1 = omega arith in
      by_choice (λ (past : ℕ). 0 < past → T (test (past - 1))) (test n) (λ passes _. subst (λ (m : ℕ). T (test m)) last passes)
      (λ fails. past_passes n) h

  -- and none from it on does
  pub past_greatest : (n i : ℕ) → i < n → T (test i) → i < past_last test n
  unfolding past_last
  past_greatest zero i h t = absurd (omega arith)
  past_greatest (suc n) i h t =
      by_choice (λ (past : ℕ). i < past) (test n) (λ passes. h) λ fails.
      let earlier : n ≡ i → ⊥ = other_than fails t in
      past_greatest n i (omega arith) t

  -- where none passes it is 0
  pub past_none : (n : ℕ) → ((i : ℕ) → i < n → T (test i) → ⊥) → past_last test n ≡ 0
  unfolding past_last
  past_none zero none = refl
  past_none (suc n) none =
      by_choice (λ (past : ℕ). past ≡ 0) (test n) (λ passes. absurd (none n (omega arith) passes))
      (λ fails. past_none n (λ i h. none i (omega arith)))

-- ---- tests that pass one range

-- below n, a test that passes every number above one that passes, and one that passes every number below
abbrev pub Upward : ℕ → (ℕ → Bool) → Type 0
Upward n test = (i k : ℕ) → i ≤ k → k < n → T (test i) → T (test k)

abbrev pub Downward : ℕ → (ℕ → Bool) → Type 0
Downward n test = (i k : ℕ) → i ≤ k → k < n → T (test k) → T (test i)

module _ (n : ℕ) (up down : ℕ → Bool) (upward : Upward n up) (downward : Downward n down)
    (test : ℕ → Bool) (joins : (i : ℕ) → i < n → test i ≡ (up i && down i)) where
  -- A narrower test, which asks more of the higher numbers: its range ends earlier, and begins where the wider one does or is empty.
  pub narrower_range : (more : ℕ → Bool) → Downward n more → (narrower : ℕ → Bool) → ((i : ℕ) → i < n → narrower i ≡ (test i && more i))
      → (i : ℕ) → i < n → narrower i ≡ (leb (first_from 0 test 0 n) i && ltb i (past_last narrower n))
  narrower_range more fewer narrower narrows i h =
      same_test (narrower i) (leb first i && ltb i past)
      (λ t. and_i (leb first i) (ltb i past)
      (le→leb first i (first_least test 0 0 n i (omega arith) (omega arith) (wider i h t)))
      (lt→ltb i past (past_greatest narrower n i h t)))
      (λ t. within (leb→le first i (and_l (leb first i) (ltb i past) t)) (ltb→lt i past (and_r (leb first i) (ltb i past) t)))
    where
      first : ℕ
      first = first_from 0 test 0 n

      past : ℕ
      past = past_last narrower n

      wider : (k : ℕ) → k < n → T (narrower k) → T (test k)
      wider k l t = and_l (test k) (more k) (subst T (narrows k l) t)

      within : first ≤ i → i < past → T (narrower i)
      within from to =
          let end = past_le narrower n in
          let last : ℕ = past - 1 in
          let below : last < n = omega arith in
          let at_last : T (narrower last) = past_passes narrower n (omega arith) in
          let at_first : T (test first) = first_passes test 0 0 n last (omega arith) (omega arith) (wider last below at_last) in
          let joined-first = subst T (joins first (omega arith)) at_first in
          let joined-last = subst T (joins last below) (wider last below at_last) in
          let rising = upward first i from h (and_l (up first) (down first) joined-first) in
          let falling = downward i last (omega arith) below (and_r (up last) (down last) joined-last) in
          let asked = fewer i last (omega arith) below (and_r (test last) (more last) (subst T (narrows last below) at_last)) in
          subst T (sym (narrows i h)) (and_i (test i) (more i) (subst T (sym (joins i h)) (and_i (up i) (down i) rising falling)) asked)

  -- such a test by itself
  pub one_range : (i : ℕ) → i < n → test i ≡ (leb (first_from 0 test 0 n) i && ltb i (past_last test n))
  one_range = narrower_range (λ _. true) (λ i k h l t. t) test (λ i h. sym (and-true (test i)))
