-- What holds of each entry of a list holds of each of its parts, and so does what follows from it. Assumes nothing.
use Prim.Native.Nat.{ℕ, zero, suc, ◌<◌}
use mathlib.Core.List.{List, [], ◌∷◌, ◌++◌, map}
use native.Mathlib.Omega.{arith}
use lib.ListN.{length, get_or, take}
use Rattle.laws.specs.Inner.Each.{Each, each_none, each_more}

module _ {A : Type 0} where
  pub each_follows : {P Q : A → Type 0} {xs : List A} → ((x : A) → P x → Q x) → Each P xs → Each Q xs
  each_follows f each_none = each_none
  each_follows f (each_more {x = x} p ps) = each_more (f x p) (each_follows f ps)

  pub each_map : {B : Type 0} {P : B → Type 0} (f : A → B) {xs : List A} → Each (λ x. P (f x)) xs → Each P (map f xs)
  each_map f each_none = each_none
  each_map f (each_more p ps) = each_more p (each_map f ps)

  -- what holds at every place of a list holds of each entry, and the other way round
  pub each_from : {P : A → Type 0} (other : A) (xs : List A) → ((i : ℕ) → i < length xs → P (get_or xs i other)) → Each P xs
  each_from other [] holds = each_none
  each_from other (x ∷ xs) holds = each_more (holds zero (omega arith)) (each_from other xs (λ i below. holds (suc i) (omega arith)))

  pub each_at : {P : A → Type 0} {xs : List A} (other : A) → Each P xs → (i : ℕ) → i < length xs → P (get_or xs i other)
  each_at other each_none i below = absurd (omega arith)
  each_at other (each_more p ps) zero below = p
  each_at other (each_more p ps) (suc i) below = each_at other ps i (omega arith)

  module _ {P : A → Type 0} where
    pub each_split : (xs : List A) {ys : List A} → Each P (xs ++ ys) → Each P xs × Each P ys
    each_split [] ps = (each_none, ps)
    each_split (x ∷ xs) (each_more p ps) = let split = each_split xs ps in (each_more p split.0, split.1)

    pub each_join : {xs ys : List A} → Each P xs → Each P ys → Each P (xs ++ ys)
    each_join each_none qs = qs
    each_join (each_more p ps) qs = each_more p (each_join ps qs)

    pub each_take : (n : ℕ) {xs : List A} → Each P xs → Each P (take n xs)
    each_take zero ps = each_none
    each_take (suc n) each_none = each_none
    each_take (suc n) (each_more p ps) = each_more p (each_take n ps)
