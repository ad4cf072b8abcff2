-- Parts of lists, with places as code counts them (`i + 1`). Assumes nothing.
use Prim.Native.Nat.{ℕ, zero, suc, ◌+◌, ◌-◌, ◌≤◌, ◌<◌}
use mathlib.Core.Bool.{Bool, true, false, ◌||◌}
use mathlib.Core.Path.{◌≡◌, refl, sym, ap, ◌∙◌}
use mathlib.Core.List.{List, [], ◌∷◌}
use native.Mathlib.Numerals.{add-one}
use native.Mathlib.Omega.{arith}
use lib.ListN.{length, get_or, drop, replicate}
use lib.Seq.{drop-cons}
use Rattle.std.specs.List.{fold, list_any}

module _ {ℓ} {A : Type ℓ} where
  pub length_none : (l : List A) → length l ≡ 0 → l ≡ []
  length_none [] e = refl
  length_none (x ∷ l) e = absurd (omega arith)

  -- what is left from place i on: its first, then what is left from the next place on
  pub left_from : (l : List A) (i : ℕ) (d : A) → i < length l → drop i l ≡ get_or l i d ∷ drop (i + 1) l
  left_from l i d h = drop-cons l i d h ∙ ap (λ (n : ℕ). get_or l i d ∷ drop n l) (sym (add-one i))

  -- the same for a walk from the end
  pub left_before : (l : List A) (i : ℕ) (d : A) → 0 < i → i ≤ length l → drop (i - 1) l ≡ get_or l (i - 1) d ∷ drop i l
  left_before l i d some within =
      let next : i - 1 + 1 ≡ i = omega arith in
      left_from l (i - 1) d (omega arith) ∙ ap (λ (n : ℕ). get_or l (i - 1) d ∷ drop n l) next

  pub drop_replicate : (n size : ℕ) (x : A) → drop n (replicate size x) ≡ replicate (size - n) x
  drop_replicate zero size x = let e : size ≡ size - 0 = omega arith in ap (λ (m : ℕ). replicate m x) e
  drop_replicate (suc n) zero x = let e : zero ≡ zero - suc n = omega arith in ap (λ (m : ℕ). replicate m x) e
  drop_replicate (suc n) (suc size) x =
      let e : size - n ≡ suc size - suc n = omega arith in
      drop_replicate n size x ∙ ap (λ (m : ℕ). replicate m x) e

-- a walk to the end that tests each entry, by `fold`
module _ {A : Type 0} (test : A → Bool) where
  any_from : (before : Bool) (xs : List A) → fold (λ b x. b || test x) before xs ≡ (before || list_any test xs)
  any_from true [] = refl
  any_from false [] = refl
  any_from true (x ∷ xs) = any_from true xs
  any_from false (x ∷ xs) = any_from (test x) xs

  pub any_folded : (xs : List A) → fold (λ b x. b || test x) false xs ≡ list_any test xs
  any_folded xs = any_from false xs
