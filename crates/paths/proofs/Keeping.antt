-- What holds of the rows of the cell rule, whatever they keep: a way to prove something of every cell, and that rows which keep
-- another thing of the same paths have the other thing of the same cells.
use Prim.Native.Nat.{ℕ, zero, suc, ◌≤◌, ◌<◌}
use native.Mathlib.Omega.{arith}
use mathlib.Core.Path.{◌≡◌, refl, sym, ap, ap₂, fun_ext, ◌∙◌}
use lib.Dec.{T}
use Rattle.laws.proofs.Tests.{by_choice}
use Rattle.paths.specs.Problem.{Problem}
use Rattle.paths.specs.Cell.{Cell, held, keep, best, carry, only}
use Rattle.paths.specs.CellRule.{Keeping, sweep, arrival, rows}
use Rattle.paths.proofs.Cells.{Every, every_empty, every_held, every_keep, every_carry, carry_carry, carry_same, carry_only, carry_keep, carry_best}

-- P holds of every start, and passes along gaps and units from what the rows hold
pub record Carried {A : Type 0} (q : Problem) (kept : Keeping A) (P : ℕ → ℕ → A → Type 0) : Type 0 where
  pub starts : (j : ℕ) → P zero j (kept.fresh j)
  pub gaps : (s j : ℕ) (a : A) → rows q kept s j ≡ held a → P s j a → P s (suc j) (kept.over_gap j a)
  pub units : (s i j : ℕ) (a : A) → i < j → T (q.unit_ok i j) → rows q kept s i ≡ held a → P s i a → P (suc s) j (kept.over_unit s i j a)

module _ {A : Type 0} (q : Problem) (kept : Keeping A) (P : ℕ → ℕ → A → Type 0) (carried : Carried q kept P) where
  swept : (s j : ℕ) (arrived : ℕ → Cell A) → ((j : ℕ) → Every (P s j) (arrived j)) →
      ((j : ℕ) → sweep kept arrived j ≡ rows q kept s j) → Every (P s j) (sweep kept arrived j)
  unfolding sweep
  swept s zero arrived every is = every zero
  swept s (suc j) arrived every is =
      every_keep kept.less (every (suc j))
      (every_carry (kept.over_gap j) (sweep kept arrived j) (λ a e. carried.gaps s j a (sym (is j) ∙ e)) (swept s j arrived every is))

  arrived_below :
      (s j m : ℕ) → m ≤ j → ((i : ℕ) → Every (P s i) (rows q kept s i)) →
      Every (P (suc s) j) (best kept.less m (arrival q kept s (rows q kept s) j))
  unfolding best arrival only
  arrived_below s j zero l every = every_empty
  arrived_below s j (suc m) l every = every_keep kept.less (arrived_below s j m (omega arith) every)
      (by_choice (Every (P (suc s) j)) (q.unit_ok m j)
      (λ ok. every_carry (kept.over_unit s m j) (rows q kept s m) (λ a e. carried.units s m j a l ok e) (every m)) (λ barred. every_empty))

  -- P holds of what every cell holds
  pub rows_every : (s j : ℕ) → Every (P s j) (rows q kept s j)
  unfolding rows
  rows_every zero j = swept zero j (λ j. held (kept.fresh j)) (λ j. every_held (carried.starts j)) (λ j. refl)
  rows_every (suc s) j =
      swept (suc s) j (λ j. best kept.less j (arrival q kept s (rows q kept s) j))
      (λ j. arrived_below s j j (omega arith) (rows_every s)) (λ j. refl)

-- another thing is kept of the same paths: f gives it, where P holds of them
pub record Same {A B : Type 0} (q : Problem) (kept : Keeping A) (other : Keeping B) (P : ℕ → ℕ → A → Type 0) (f : A → B) : Type 0 where
  pub less : (a b : A) → kept.less a b ≡ other.less (f a) (f b)
  pub starts : (j : ℕ) → f (kept.fresh j) ≡ other.fresh j
  pub gaps : (s j : ℕ) (a : A) → P s j a → f (kept.over_gap j a) ≡ other.over_gap j (f a)
  pub units : (s i j : ℕ) (a : A) → P s i a → f (kept.over_unit s i j a) ≡ other.over_unit s i j (f a)

carry_swap :
    {A B : Type 0} {P : A → Type 0} (f : A → B) (g : A → A) (h : B → B) (c : Cell A) →
    ((a : A) → P a → f (g a) ≡ h (f a)) → Every P c → carry f (carry g c) ≡ carry h (carry f c)
carry_swap f g h c same every = carry_carry f g c ∙ carry_same (λ a. f (g a)) (λ a. h (f a)) c same every ∙ sym (carry_carry h f c)

module _ {A B : Type 0} (q : Problem) (kept : Keeping A) (other : Keeping B) (P : ℕ → ℕ → A → Type 0) (f : A → B)
    (every : (s j : ℕ) → Every (P s j) (rows q kept s j)) (same : Same q kept other P f) where
  swept_same :
      (s : ℕ) (arrived : ℕ → Cell A) (others : ℕ → Cell B) → ((j : ℕ) → Every (P s j) (sweep kept arrived j)) →
      ((j : ℕ) → carry f (arrived j) ≡ others j) → (j : ℕ) → carry f (sweep kept arrived j) ≡ sweep other others j
  unfolding sweep
  swept_same s arrived others held-there is zero = is zero
  swept_same s arrived others held-there is (suc j) =
      carry_keep kept.less other.less f same.less (arrived (suc j)) (carry (kept.over_gap j) (sweep kept arrived j)) ∙
      ap₂ (keep other.less) (is (suc j))
      (carry_swap f (kept.over_gap j) (other.over_gap j) (sweep kept arrived j) (same.gaps s j) (held-there j) ∙
      ap (carry (other.over_gap j)) (swept_same s arrived others held-there is j))

  arrival_same :
      (s j i : ℕ) → carry f (rows q kept s i) ≡ rows q other s i →
      carry f (arrival q kept s (rows q kept s) j i) ≡ arrival q other s (rows q other s) j i
  unfolding arrival
  arrival_same s j i is =
      carry_only f (q.unit_ok i j) (carry (kept.over_unit s i j) (rows q kept s i)) ∙
      ap (only (q.unit_ok i j))
      (carry_swap f (kept.over_unit s i j) (other.over_unit s i j) (rows q kept s i) (same.units s i j) (every s i) ∙
      ap (carry (other.over_unit s i j)) is)

  pub rows_same : (s j : ℕ) → carry f (rows q kept s j) ≡ rows q other s j
  unfolding rows carry
  rows_same zero = swept_same zero (λ j. held (kept.fresh j)) (λ j. held (other.fresh j)) (every zero) (λ j. ap held (same.starts j))
  rows_same (suc s) =
      swept_same (suc s) (λ j. best kept.less j (arrival q kept s (rows q kept s) j))
      (λ j. best other.less j (arrival q other s (rows q other s) j)) (every (suc s))
      (λ j.
      carry_best kept.less other.less f same.less j (arrival q kept s (rows q kept s) j) ∙
      ap (best other.less j) (fun_ext (λ i. arrival_same s j i (rows_same s i))))
