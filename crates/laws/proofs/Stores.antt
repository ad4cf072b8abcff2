-- Runs of stores (`sets` of the toolchain's library), with places as code counts them (`i + 1`). Assumes nothing.
use Prim.Native.Nat.{ℕ, suc, ◌+◌, ◌-◌, ◌≤◌, ◌<◌}
use mathlib.Core.Path.{◌≡◌, sym, ap, ◌∙◌}
use mathlib.Core.List.{List, [], ◌∷◌, ◌++◌}
use native.Mathlib.Nat.{add-zero, suc-add, add-suc}
use native.Mathlib.Numerals.{add-one}
use native.Mathlib.Omega.{arith}
use lib.ListN.{length, set, replicate}
use lib.Seq.{sets}

module _ {ℓ} {A : Type ℓ} where
  -- two runs, one after the other
  pub sets_append : (l xs ys : List A) (i : ℕ) → sets l i (xs ++ ys) ≡ sets (sets l i xs) (i + length xs) ys
  sets_append l [] ys i = ap (λ (n : ℕ). sets l n ys) (sym (add-zero i))
  sets_append l (x ∷ xs) ys i =
      sets_append (set l i x) xs ys (suc i)
      ∙ ap (λ (n : ℕ). sets (sets (set l i x) (suc i) xs) n ys) (suc-add i (length xs) ∙ sym (add-suc i (length xs)))

  -- one value stored in every place from i up to `to`: a turn of the loop, and its end
  pub fill_turn : (l : List A) (x : A) (i to : ℕ) → i < to → sets l i (replicate (to - i) x) ≡ sets (set l i x) (i + 1) (replicate (to - (i + 1)) x)
  fill_turn l x i to h =
      let one_less : to - i ≡ suc (to - (i + 1)) = omega arith in
      ap (λ (n : ℕ). sets l i (replicate n x)) one_less
      ∙ ap (λ (n : ℕ). sets (set l i x) n (replicate (to - (i + 1)) x)) (sym (add-one i))

  pub fill_end : (l : List A) (x : A) (i to : ℕ) → to ≤ i → sets l i (replicate (to - i) x) ≡ l
  fill_end l x i to h =
      let nothing : to - i ≡ 0 = omega arith in
      ap (λ (n : ℕ). sets l i (replicate n x)) nothing
