-- What a cell holds: two predicates, and what keeping and carrying do to them; and the equations of keeping, carrying and choosing.
use Prim.Native.Nat.{ℕ, zero, suc}
use native.Mathlib.Omega.{arith}
use mathlib.Core.Path.{◌≡◌, refl, ap, ap₂, subst, ◌∙◌}
use mathlib.Core.Bool.{Bool, true, false, not, cond}
use lib.Dec.{T}
use Rattle.laws.proofs.Tests.{by_choice}
use Rattle.paths.specs.Cell.{Cell, empty, held, keep, best, carry, only}

-- what the cell holds, if anything, is P
pub data Every {A : Type 0} (P : A → Type 0) : Cell A → Type 0 where
  every_empty : Every P empty
  every_held : {a : A} → P a → Every P (held a)

-- the cell holds something, and it is P
pub data Some {A : Type 0} (P : A → Type 0) : Cell A → Type 0 where
  some_held : {a : A} → P a → Some P (held a)

pub held_same : {A : Type 0} {a b : A} → held a ≡ held b → a ≡ b
held_same e = cc

not_both : {A : Type 0} {c : Cell A} {a : A} → c ≡ empty → c ≡ held a → ⊥
not_both e f = let z : ◌≡◌ {A = ℕ} 0 1 = cc in omega arith

pub every_at : {A : Type 0} {P : A → Type 0} {c : Cell A} {a : A} → Every P c → c ≡ held a → P a
every_at {P = P} every_empty e = absurd (not_both refl e)
every_at {P = P} (every_held p) e = subst P (held_same e) p

pub some_at : {A : Type 0} {P : A → Type 0} {c : Cell A} {a : A} → Some P c → c ≡ held a → P a
some_at {P = P} (some_held p) e = subst P (held_same e) p

pub some_filled : {A : Type 0} {P : A → Type 0} {c : Cell A} → Some P c → c ≡ empty → ⊥
some_filled (some_held p) e = not_both e refl

-- a step from a cell, told what the cell holds
pub every_carry :
    {A B : Type 0} {P : A → Type 0} {Q : B → Type 0} (f : A → B) (c : Cell A) →
    ((a : A) → c ≡ held a → P a → Q (f a)) → Every P c → Every Q (carry f c)
unfolding carry
every_carry f empty step every = every_empty
every_carry f (held a) step (every_held p) = every_held (step a refl p)

-- over one comparison of what cells hold
module _ {A : Type 0} (less : A → A → Bool) where
  pub every_keep : {P : A → Type 0} {c d : Cell A} → Every P c → Every P d → Every P (keep less c d)
  unfolding keep
  every_keep every_empty later = later
  every_keep (every_held p) every_empty = every_held p
  every_keep {P = P} (every_held {a = a} p) (every_held {a = b} q) = by_choice (Every P) (less a b) (λ t. every_held q) (λ t. every_held p)

  -- P passes from what is held to what replaces it
  pub some_keep :
      {P R : A → Type 0} {c d : Cell A} → ((a b : A) → R a → R b → T (less a b) → P a → P b) →
      Every R c → Every R d → Some P c → Some P (keep less c d)
  unfolding keep
  some_keep up rc every_empty (some_held p) = some_held p
  some_keep {P = P} up rc (every_held {a = b} rb) (some_held {a = a} p) =
      by_choice (Some P) (less a b) (λ t. some_held (up a b (every_at rc refl) rb t p)) (λ t. some_held p)

  -- P passes from what does not replace to what stays
  pub some_keep_later :
      {P R : A → Type 0} {c d : Cell A} → ((a b : A) → R a → R b → T (not (less a b)) → P b → P a) →
      Every R c → Every R d → Some P d → Some P (keep less c d)
  unfolding keep
  some_keep_later stay every_empty rd (some_held p) = some_held p
  some_keep_later {P = P} stay (every_held {a = a} ra) rd (some_held {a = b} p) =
      by_choice (Some P) (less a b) (λ t. some_held p) (λ t. some_held (stay a b ra (every_at rd refl) t p))

  pub keep_empty : (c : Cell A) → keep less c empty ≡ c
  unfolding keep
  keep_empty empty = refl
  keep_empty (held a) = refl

pub carry_carry : {A B C : Type 0} (g : B → C) (f : A → B) (c : Cell A) → carry g (carry f c) ≡ carry (λ a. g (f a)) c
unfolding carry
carry_carry g f empty = refl
carry_carry g f (held a) = refl

-- steps that agree on what the cell holds
pub carry_same :
    {A B : Type 0} {P : A → Type 0} (f g : A → B) (c : Cell A) → ((a : A) → P a → f a ≡ g a) → Every P c → carry f c ≡ carry g c
unfolding carry
carry_same f g empty same every = refl
carry_same f g (held a) same (every_held p) = ap held (same a p)

pub carry_only : {A B : Type 0} (f : A → B) (b : Bool) (c : Cell A) → carry f (only b c) ≡ only b (carry f c)
unfolding only carry
carry_only f true c = refl
carry_only f false c = refl

pub only_true : {A : Type 0} (b : Bool) (c : Cell A) → T b → only b c ≡ c
unfolding only
only_true true c t = refl
only_true false c t = absurd t

-- a map that keeps the comparison goes through the choice
module _ {A B : Type 0} (less : A → A → Bool) (other : B → B → Bool) (f : A → B) (same : (a b : A) → less a b ≡ other (f a) (f b)) where
  pub carry_keep : (c d : Cell A) → carry f (keep less c d) ≡ keep other (carry f c) (carry f d)
  unfolding carry keep
  carry_keep empty d = refl
  carry_keep (held a) empty = refl
  carry_keep (held a) (held b) = pushed (less a b) ∙ ap (λ t. cond t (held (f b)) (held (f a))) (same a b)
    where
      pushed : (t : Bool) → carry f (cond t (held b) (held a)) ≡ cond t (held (f b)) (held (f a))
      pushed true = refl
      pushed false = refl

  pub carry_best : (m : ℕ) (ways : ℕ → Cell A) → carry f (best less m ways) ≡ best other m (λ i. carry f (ways i))
  unfolding best carry
  carry_best zero ways = refl
  carry_best (suc m) ways = carry_keep (best less m ways) (ways m) ∙ ap₂ (keep other) (carry_best m ways) refl
