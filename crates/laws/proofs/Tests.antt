-- Tests as facts: `T b` says that the test b passes. For both halves of `a && b` the library has `and_i`, `and_l` and `and_r`
-- (`lib.Ieee.Fits`). Assumes nothing.
use mathlib.Core.Bool.{Bool, true, false, not, ◌&&◌, ◌||◌, cond}
use mathlib.Core.Logic.{◌⊎◌, inl, inr}
use mathlib.Core.Path.{◌≡◌, refl}
use lib.Dec.{T}

-- a split on a computed test
pub by_test {ℓ} : {A : Type ℓ} (b : Bool) → (T b → A) → (T (not b) → A) → A
by_test true pass fail = pass tt
by_test false pass fail = fail tt

-- what both branches of a choice have, the choice has
pub by_choice {ℓ κ} : {A : Type ℓ} (P : A → Type κ) (b : Bool) {yes no : A} → (T b → P yes) → (T (not b) → P no) → P (cond b yes no)
by_choice P true pass fail = pass tt
by_choice P false pass fail = fail tt

-- one of two tests passes
pub either : (a b : Bool) → T (a || b) → T a ⊎ T b
either true b t = inl tt
either false b t = inr t

pub either_left : (a b : Bool) → T a → T (a || b)
either_left true b t = tt
either_left false b t = absurd t

pub either_right : (a b : Bool) → T b → T (a || b)
either_right true b t = tt
either_right false b t = t

-- two tests that imply one another
pub same_test : (a b : Bool) → (T a → T b) → (T b → T a) → a ≡ b
same_test true true to back = refl
same_test true false to back = absurd (to tt)
same_test false true to back = absurd (back tt)
same_test false false to back = refl

-- two tests that agree where a first one passes
pub and_same : (a : Bool) {b c : Bool} → (T a → b ≡ c) → (a && b) ≡ (a && c)
and_same true h = h tt
and_same false h = refl
