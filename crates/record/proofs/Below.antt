-- Laws of `any_below`. A loop that looks for the first number at which a test holds keeps `any_below p i ≡ false`.
use Prim.Native.Nat.{ℕ, zero, suc, ◌+◌, ◌≤◌, ◌<◌}
use mathlib.Core.Bool.{Bool, true, false, ◌||◌, or-true}
use mathlib.Core.List.{List, [], ◌∷◌}
use mathlib.Core.Path.{◌≡◌, refl, sym, ap, ◌∙◌}
use mathlib.Core.Logic.{⊎_elim}
use native.Mathlib.Nat.{le_of_suc-le-suc, eq-or-lt_of_le, not-suc-le-zero, le_antisymm}
use native.Mathlib.Numerals.{add-one}
use native.Mathlib.Omega.{arith}
use lib.ListN.{length, get_or}
use Rattle.std.specs.List.{fold}
use Rattle.laws.proofs.Choices.{neither_left, neither_right}
use Rattle.record.specs.Below.{any_below}

module _ (p : ℕ → Bool) where
  pub any_none : any_below p 0 ≡ false
  unfolding any_below
  any_none = refl

  pub any_more : (i : ℕ) → any_below p i ≡ false → p i ≡ false → any_below p (i + 1) ≡ false
  unfolding any_below
  any_more i none here = rw (add-one, none, here) refl

  -- a walk to the end, whatever it finds
  pub any_next : (i : ℕ) {before here : Bool} → before ≡ any_below p i → here ≡ p i → (before || here) ≡ any_below p (i + 1)
  unfolding any_below
  any_next i none here = rw (add-one, none, here) refl

  pub any_found : (i n : ℕ) → i < n → p i ≡ true → any_below p n ≡ true
  unfolding any_below
  any_found i zero l here = absurd (not-suc-le-zero l)
  any_found i (suc n) l here = ⊎_elim (λ e. at e) (λ lt. before (any_found i n lt here)) (eq-or-lt_of_le (le_of_suc-le-suc l))
    where
      at : i ≡ n → (any_below p n || p n) ≡ true
      at e = ap (λ (b : Bool). any_below p n || b) (ap p (sym e) ∙ here) ∙ or-true (any_below p n)

      before : any_below p n ≡ true → (any_below p n || p n) ≡ true
      before e = ap (λ (b : Bool). b || p n) e

  pub any_end : (i n : ℕ) → i ≤ n → n ≤ i → any_below p i ≡ false → false ≡ any_below p n
  any_end i n le ge none = sym none ∙ ap (any_below p) (le_antisymm le ge)

  pub none_below : (n : ℕ) → any_below p n ≡ false → (i : ℕ) → i < n → p i ≡ false
  unfolding any_below
  none_below zero e i l = absurd (not-suc-le-zero l)
  none_below (suc n) e i l =
      ⊎_elim (λ (h : i ≡ n). ap p h ∙ neither_right (any_below p n) (p n) e) (λ lt. none_below n (neither_left (any_below p n) (p n) e) i lt) (eq-or-lt_of_le (le_of_suc-le-suc l))

-- a walk over a list to its end, by `fold`, that tests what stands at each place
module _ {A : Type 0} (test : A → Bool) (p : ℕ → Bool) (d : A) where
  walked : (i : ℕ) (xs : List A) {before : Bool} → before ≡ any_below p i
      → ((k : ℕ) → k < length xs → test (get_or xs k d) ≡ p (i + k))
      → fold (λ b x. b || test x) before xs ≡ any_below p (i + length xs)
  walked i [] before alike = before ∙ ap (any_below p) (omega arith)
  walked i (x ∷ xs) before alike =
      walked (i + 1) xs (any_next p i before (alike 0 (omega arith) ∙ ap p (omega arith))) next ∙ ap (any_below p) (omega arith)
    where
      next : (k : ℕ) → k < length xs → test (get_or xs k d) ≡ p (i + 1 + k)
      next k h = let far : i + suc k ≡ i + 1 + k = omega arith in alike (suc k) (omega arith) ∙ ap p far

  pub any_walked : (xs : List A) {n : ℕ} → length xs ≡ n → ((k : ℕ) → k < n → test (get_or xs k d) ≡ p k)
      → fold (λ b x. b || test x) false xs ≡ any_below p n
  any_walked xs long alike =
      walked 0 xs (sym (any_none p)) (λ k h. alike k (omega (arith, long, h)) ∙ ap p (omega arith)) ∙ ap (any_below p) (omega (arith, long))
