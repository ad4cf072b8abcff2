-- Laws of the ordered rules: what those of the candidates find from one candidate on.
use Prim.Native.Nat.{ℕ, suc, ◌+◌, ◌-◌, ◌≤◌, ◌<◌}
use mathlib.Core.Bool.{true, false, cond}
use mathlib.Core.List.{List}
use mathlib.Core.Option.{Option, none, some}
use mathlib.Core.Path.{◌≡◌, refl, ap, ◌∙◌}
use native.Mathlib.Numerals.{add-one}
use native.Mathlib.Omega.{arith}
use Rattle.laws.specs.Rules.{first_of}
use Rattle.laws.proofs.Choices.{taken, passed}
use Rattle.record.specs.Layout.{layout_of}
use Rattle.record.specs.Conditions.{repeated, bad_units, bad_column}
use Rattle.record.specs.Refusals.{candidate_rules}
use Rattle.limits.specs.declared.edition.Limits.{Limits}
use Rattle.record.specs.declared.layout.Layout.{Layout}
use Rattle.limits.specs.declared.refusal.Refusal.{Refusal}
use Rattle.limits.specs.declared.refusal.Refusal.TheVariants.{Twice, Units, Column}

-- what the rules of the candidates from i up to n find
abbrev pub rest : Limits → List ℕ → ℕ → ℕ → Option Refusal
rest l bytes n i = first_of (candidate_rules l bytes i (n - i))

-- the three rules of candidate i, then those of the candidates after it
abbrev one : Limits → List ℕ → ℕ → ℕ → Layout → Option Refusal
one l bytes n i at =
    cond (repeated l bytes at i) (some Twice) (cond (bad_units l bytes at i) (some Units) (cond (bad_column l bytes at i) (some Column) (rest l bytes n (i + 1))))

module _ (l : Limits) (bytes : List ℕ) (n : ℕ) where
  pub rest_all : rest l bytes n 0 ≡ first_of (candidate_rules l bytes 0 n)
  rest_all =
      let left : n - 0 ≡ n = omega arith in
      ap (λ (k : ℕ). first_of (candidate_rules l bytes 0 k)) left

  pub rest_done : (i : ℕ) → n ≤ i → rest l bytes n i ≡ none
  unfolding first_of candidate_rules
  rest_done i past =
      let left : n - i ≡ 0 = omega arith in
      ap (λ (k : ℕ). first_of (candidate_rules l bytes i k)) left

  step : (i : ℕ) → i < n → one l bytes n i (layout_of bytes) ≡ rest l bytes n i
  unfolding first_of candidate_rules
  step i below =
      let left : suc (n - (i + 1)) ≡ n - i = omega arith in
      rw (add-one i) refl ∙ ap (λ (k : ℕ). first_of (candidate_rules l bytes i k)) left

  module _ (at : Layout) (is : at ≡ layout_of bytes) (i : ℕ) (below : i < n) where
    one_rest : one l bytes n i at ≡ rest l bytes n i
    one_rest = ap (one l bytes n i) is ∙ step i below

    pub first_twice : repeated l bytes at i ≡ true → some Twice ≡ rest l bytes n i
    first_twice h = taken _ h ∙ one_rest

    pub first_units : repeated l bytes at i ≡ false → bad_units l bytes at i ≡ true → some Units ≡ rest l bytes n i
    first_units f h = passed _ f (taken _ h) ∙ one_rest

    pub first_column : repeated l bytes at i ≡ false → bad_units l bytes at i ≡ false → bad_column l bytes at i ≡ true → some Column ≡ rest l bytes n i
    first_column f g h =
        passed _ f (passed _ g (taken _ h)) ∙ one_rest

    pub first_later : repeated l bytes at i ≡ false → bad_units l bytes at i ≡ false → bad_column l bytes at i ≡ false → rest l bytes n (i + 1) ≡ rest l bytes n i
    first_later f g h =
        passed _ f (passed _ g (passed _ h refl)) ∙ one_rest
