-- The first and the last of some numbers that pass a test: where they are found, where none is, and over more numbers. Assumes nothing.
use Prim.Native.Nat.{ℕ, zero, suc, ◌+◌, ◌≤◌, ◌<◌}
use mathlib.Core.Bool.{Bool, true, false, cond}
use mathlib.Core.Path.{◌≡◌, refl, sym, ap, ap₂, ◌∙◌}
use native.Mathlib.Nat.{add-zero, zero-add, add-suc, suc-add}
use native.Mathlib.Omega.{arith}
use Rattle.laws.specs.Inner.Range.{first_from, past_last}
use Rattle.laws.proofs.Numbers.{by_order}
use Rattle.laws.proofs.Tests.{by_choice}

-- ---- the first

pub first_passes : (other : ℕ) (test : ℕ → Bool) (at n j : ℕ) → at ≤ j → j < at + n → ((k : ℕ) → at ≤ k → k < j → test k ≡ false)
    → test j ≡ true
    → first_from other test at n ≡ j
unfolding first_from
first_passes other test at zero j h l earlier here = absurd (none h l)
  where
    none : at ≤ j → j < at + 0 → ⊥
    none h l = omega arith
first_passes other test at (suc n) j h l earlier here =
    by_order at j
    (λ less. rw (earlier at (omega arith) less)
    (first_passes other test (suc at) n j less (omega arith) (λ k a b. earlier k (omega arith) b) here))
    (λ more.
    let same : j ≡ at = omega arith in
    let passes : test at ≡ true = ap test (sym same) ∙ here in
    rw passes (sym same))

pub none_passes : (other : ℕ) (test : ℕ → Bool) (at n : ℕ) → ((k : ℕ) → at ≤ k → k < at + n → test k ≡ false)
    → first_from other test at n ≡ other
unfolding first_from
none_passes other test at zero none = refl
none_passes other test at (suc n) none =
    rw (none at (omega arith) (omega arith)) (none_passes other test (suc at) n (λ k h l. none k (omega arith) (omega arith)))

pub first_le : (other : ℕ) (test : ℕ → Bool) (at n most : ℕ) → other ≤ most → at + n ≤ suc most → first_from other test at n ≤ most
unfolding first_from
first_le other test at zero most h k = h
first_le other test at (suc n) most h k =
    by_choice (λ (first : ℕ). first ≤ most) (test at) (λ t. omega arith) (λ t. first_le other test (suc at) n most h (omega arith))

pub first_same : (other : ℕ) (test test' : ℕ → Bool) (at n : ℕ) → ((k : ℕ) → at ≤ k → k < at + n → test k ≡ test' k)
    → first_from other test at n ≡ first_from other test' at n
unfolding first_from
first_same other test test' at zero same = refl
first_same other test test' at (suc n) same =
    ap₂ (λ (passes : Bool) (rest : ℕ). cond passes at rest) (same at (omega arith) (omega arith))
    (first_same other test test' (suc at) n (λ k h l. same k (omega arith) (omega arith)))

-- one number more, which is asked last
first_last : (other : ℕ) (test : ℕ → Bool) (at n : ℕ)
    → first_from other test at (suc n) ≡ first_from (cond (test (at + n)) (at + n) other) test at n
unfolding first_from
first_last other test at zero = ap (λ (k : ℕ). cond (test k) k other) (sym (add-zero at))
first_last other test at (suc n) =
    ap (cond (test at) at)
    (first_last other test (suc at) n
    ∙ ap (λ (k : ℕ). first_from (cond (test k) k other) test (suc at) n) (suc-add at n ∙ sym (add-suc at n)))

first_more : (other : ℕ) (test : ℕ → Bool) (n : ℕ) → first_from other test 0 (suc n) ≡ first_from (cond (test n) n other) test 0 n
first_more other test n = first_last other test 0 n ∙ ap (λ (k : ℕ). first_from (cond (test k) k other) test 0 n) (zero-add n)

-- ---- one past the last

pub past_le : (test : ℕ → Bool) (n : ℕ) → past_last test n ≤ n
unfolding past_last
past_le test zero = omega arith
past_le test (suc n) = by_choice (λ (past : ℕ). past ≤ suc n) (test n) (λ t. omega arith) (λ t. omega (arith, past_le test n))

pub past_same : (test test' : ℕ → Bool) (n : ℕ) → ((k : ℕ) → k < n → test k ≡ test' k) → past_last test n ≡ past_last test' n
unfolding past_last
past_same test test' zero same = refl
past_same test test' (suc n) same =
    ap₂ (λ (passes : Bool) (rest : ℕ). cond passes (suc n) rest) (same n (omega arith))
    (past_same test test' n (λ k h. same k (omega arith)))

-- where there is no last, no number passes
pub no_last : (test : ℕ → Bool) (n : ℕ) → past_last test n ≡ 0 → (k : ℕ) → k < n → test k ≡ false
unfolding past_last
no_last test zero e k h = absurd (none h)
  where
    none : k < 0 → ⊥
    none h = omega arith
no_last test (suc n) e k h = go (test n) refl e (no_last test n)
  where
    go : (passes : Bool) → test n ≡ passes → cond passes (suc n) (past_last test n) ≡ 0
        → (past_last test n ≡ 0 → (k : ℕ) → k < n → test k ≡ false) → test k ≡ false
    go true here none below = absurd (some none)
      where
        some : suc n ≡ 0 → ⊥
        some none = omega arith
    go false here none below = by_order k n (below none k) (λ more. let same : k ≡ n = omega arith in ap test same ∙ here)

-- ---- over one number more, by its test

module _ (test : ℕ → Bool) (n : ℕ) where
  pub past_passes : test n ≡ true → past_last test (suc n) ≡ suc n
  unfolding past_last
  past_passes e = rw e

  pub past_fails : test n ≡ false → past_last test (suc n) ≡ past_last test n
  unfolding past_last
  past_fails e = rw e

  pub first_fails : (other : ℕ) → test n ≡ false → first_from other test 0 (suc n) ≡ first_from other test 0 n
  first_fails other e = first_more other test n ∙ ap (λ (passes : Bool). first_from (cond passes n other) test 0 n) e

  -- it is the first
  pub first_new : (other : ℕ) → past_last test n ≡ 0 → test n ≡ true → first_from other test 0 (suc n) ≡ n
  first_new other none e = first_passes other test 0 (suc n) n (omega arith) (omega arith) (λ k _ h. no_last test n none k h) e

-- where some number passes, what stands for none does not matter
first_other : (one other : ℕ) (test : ℕ → Bool) (n : ℕ) → 0 < past_last test n → first_from one test 0 n ≡ first_from other test 0 n
unfolding past_last
first_other one other test zero some = omega arith
first_other one other test (suc n) some =
    first_more one test n ∙ go (test n) some (first_other one other test n) ∙ sym (first_more other test n)
  where
    go : (passes : Bool) → 0 < cond passes (suc n) (past_last test n)
        → (0 < past_last test n → first_from one test 0 n ≡ first_from other test 0 n)
        → first_from (cond passes n one) test 0 n ≡ first_from (cond passes n other) test 0 n
    go true some below = refl
    go false some below = below some

pub first_stays : (test : ℕ → Bool) (n other : ℕ) → 0 < past_last test n → first_from other test 0 (suc n) ≡ first_from other test 0 n
first_stays test n other some = first_more other test n ∙ first_other (cond (test n) n other) other test n some

-- ---- over numbers of which none passes

pub past_on : (test : ℕ → Bool) (n more : ℕ) → ((k : ℕ) → n ≤ k → k < n + more → test k ≡ false)
    → past_last test (n + more) ≡ past_last test n
past_on test n zero fails = ap (past_last test) (add-zero n)
past_on test n (suc more) fails =
    ap (past_last test) (add-suc n more) ∙ past_fails test (n + more) (fails (n + more) (omega arith) (omega arith))
    ∙ past_on test n more (λ k h l. fails k h (omega arith))

pub first_on : (other : ℕ) (test : ℕ → Bool) (n more : ℕ) → ((k : ℕ) → n ≤ k → k < n + more → test k ≡ false)
    → first_from other test 0 (n + more) ≡ first_from other test 0 n
first_on other test n zero fails = ap (first_from other test 0) (add-zero n)
first_on other test n (suc more) fails =
    ap (first_from other test 0) (add-suc n more) ∙ first_fails test (n + more) other (fails (n + more) (omega arith) (omega arith))
    ∙ first_on other test n more (λ k h l. fails k h (omega arith))
