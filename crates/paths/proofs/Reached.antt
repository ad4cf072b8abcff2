-- Which cells of the rows hold a path: those from the first boundary on that so many units reach, where the origins of units are ranges.
-- Assumes nothing.
use Prim.Native.Nat.{ℕ, zero, suc, ◌-◌, ◌≤◌, ◌<◌}
use mathlib.Core.Path.{◌≡◌, refl, sym, ap, ap₂, subst, ◌∙◌}
use mathlib.Core.Bool.{Bool, true, false, ◌&&◌, ◌||◌, or_comm, true≢false, false≢true}
use mathlib.Core.Logic.{inl, inr}
use native.Mathlib.Nat.{le_refl}
use native.Mathlib.Omega.{arith}
use lib.Dec.{T, leb, ltb, leb→le, le→leb, ltb→lt, lt→ltb}
use lib.Ieee.{lt}
use lib.Ieee.Fits.{and_i, and_l, and_r}
use borrow.Author.Tests.{le-ltb}
use Rattle.laws.specs.Inner.Range.{first_from}
use Rattle.laws.proofs.Tests.{by_choice, either, either_left, either_right, same_test}
use Rattle.laws.proofs.Numbers.{by_order}
use Rattle.laws.proofs.Convex.{first_least, first_other}
use Rattle.laws.proofs.Range.{first_same}
use Rattle.paths.specs.Problem.{Problem}
use Rattle.paths.specs.Path.{sum}
use Rattle.paths.specs.Cell.{Cell, empty, held, keep, best, carry, only}
use Rattle.paths.specs.Inner.Held.{is_held}
use Rattle.paths.specs.CellRule.{Keeping, sweep, arrival, rows, paths, chosen_path}
use Rattle.paths.specs.Inner.Ranges.{in_range, Origins, arrives_from, first_reached}

-- ---- whether a cell holds something

pub held_is : {A : Type 0} (c : Cell A) → is_held c ≡ true → (a : A) × (c ≡ held a)
held_is empty e = absurd (false≢true e)
held_is (held a) e = (a, refl)

pub empty_is : {A : Type 0} (c : Cell A) → is_held c ≡ false → c ≡ empty
empty_is empty e = refl
empty_is (held a) e = absurd (true≢false e)

module _ {A : Type 0} where
  pub keep_held : (less : A → A → Bool) (c d : Cell A) → is_held (keep less c d) ≡ (is_held c || is_held d)
  unfolding keep
  keep_held less empty d = refl
  keep_held less (held a) empty = refl
  keep_held less (held a) (held b) = by_choice (λ (c : Cell A). is_held c ≡ true) (less a b) (λ t. refl) (λ t. refl)

  pub carry_held : {B : Type 0} (step : A → B) (c : Cell A) → is_held (carry step c) ≡ is_held c
  unfolding carry
  carry_held step empty = refl
  carry_held step (held a) = refl

  pub only_held : (b : Bool) (c : Cell A) → is_held (only b c) ≡ (b && is_held c)
  unfolding only
  only_held true c = refl
  only_held false c = refl

  -- the best of some ways holds something exactly if one of them does
  module _ (less : A → A → Bool) (ways : ℕ → Cell A) where
    pub best_some : (m i : ℕ) → i < m → T (is_held (ways i)) → T (is_held (best less m ways))
    unfolding best
    best_some zero i h t = absurd (omega arith)
    best_some (suc m) i h t =
        let so_far : Bool = is_held (best less m ways) in
        subst T (sym (keep_held less (best less m ways) (ways m)))
        (by_order i m (λ k. either_left so_far (is_held (ways m)) (best_some m i k t))
        (λ k. let e : i ≡ m = omega arith in
        either_right so_far (is_held (ways m)) (subst (λ (n : ℕ). T (is_held (ways n))) e t)))

    pub best_from : (m : ℕ) → T (is_held (best less m ways)) → (i : ℕ) × (i < m) × T (is_held (ways i))
    unfolding best
    best_from zero t = absurd t
    best_from (suc m) t =
        elim (either (is_held (best less m ways)) (is_held (ways m)) (subst T (keep_held less (best less m ways) (ways m)) t)) [
          | inl before ↦ let found = best_from m before in (found.0, omega arith, found.2)
          | inr last ↦ (m, omega arith, last)
        ]

  -- and so does a row, up to a boundary: gaps go on from there
  pub sweep_held : (kept : Keeping A) (arrived : ℕ → Cell A) (j : ℕ)
      → is_held (sweep kept arrived j) ≡ is_held (best kept.less (suc j) arrived)
  unfolding sweep best keep
  sweep_held kept arrived zero = refl
  sweep_held kept arrived (suc j) =
      keep_held kept.less (arrived (suc j)) (carry (kept.over_gap j) (sweep kept arrived j))
      ∙ ap (λ (b : Bool). is_held (arrived (suc j)) || b) (carry_held (kept.over_gap j) (sweep kept arrived j) ∙ sweep_held kept arrived j)
      ∙ or_comm (is_held (arrived (suc j))) (is_held (best kept.less (suc j) arrived))
      ∙ sym (keep_held kept.less (best kept.less (suc j) arrived) (arrived (suc j)))

  -- so where what arrives at the boundaries below n passes a test, the row is reached from the first on that does
  pub sweep_reach : (kept : Keeping A) (arrived : ℕ → Cell A) (test : ℕ → Bool) (n : ℕ) → ((i : ℕ) → i < n → is_held (arrived i) ≡ test i)
      → (j : ℕ) → j < n → is_held (sweep kept arrived j) ≡ leb (first_from n test 0 n) j
  sweep_reach kept arrived test n tested j within =
      let first : ℕ = first_from n test 0 n in
      sweep_held kept arrived j
      ∙ same_test (is_held (best kept.less (suc j) arrived)) (leb first j)
      (λ t. let found = best_from kept.less arrived (suc j) t in
      let i : ℕ = found.0 in
      let below : i < suc j = found.1 in
      let least = first_least test n 0 n i (omega arith) (omega arith) (subst T (tested i (omega arith)) found.2) in
      le→leb first j (omega arith))
      (λ t. let reached = leb→le first j t in
      let passes = first_other test n 0 n (omega arith) in
      best_some kept.less arrived (suc j) first (omega arith) (subst T (sym (tested first (omega arith))) passes))

  pub arrival_held : (q : Problem) (kept : Keeping A) (s : ℕ) (row : ℕ → Cell A) (j i : ℕ)
      → is_held (arrival q kept s row j i) ≡ (q.unit_ok i j && is_held (row i))
  unfolding arrival
  arrival_held q kept s row j i =
      only_held (q.unit_ok i j) (carry (kept.over_unit s i j) (row i))
      ∙ ap (λ (b : Bool). q.unit_ok i j && b) (carry_held (kept.over_unit s i j) (row i))

-- ---- the rows

module _ (q : Problem) {low end : ℕ → ℕ} (origins : Origins q.unit_ok q.size low end) where
  module _ {A : Type 0} (kept : Keeping A) where
    -- Over a row that is reached from one boundary on: if a unit arrives from any boundary of it, then from the last origin.
    arrives : (s since : ℕ) (row : ℕ → Cell A) → ((i : ℕ) → i < q.size → is_held (row i) ≡ leb since i)
        → (j : ℕ) → j < q.size → is_held (best kept.less j (arrival q kept s row j)) ≡ arrives_from low end since j
    arrives s since row reached j within =
        same_test (is_held (best kept.less j (arrival q kept s row j))) (ltb since (end j) && ltb (low j) (end j))
        (λ t. let found = best_from kept.less (arrival q kept s row j) j t in
        let i : ℕ = found.0 in
        let below : i < j = found.1 in
        let both = subst T (goes i below) found.2 in
        let origin = and_l (leb (low j) i && ltb i (end j)) (leb since i) both in
        let lowest = leb→le (low j) i (and_l (leb (low j) i) (ltb i (end j)) origin) in
        let highest = ltb→lt i (end j) (and_r (leb (low j) i) (ltb i (end j)) origin) in
        let from = leb→le since i (and_r (leb (low j) i && ltb i (end j)) (leb since i) both) in
        and_i (ltb since (end j)) (ltb (low j) (end j)) (lt→ltb since (end j) (omega arith)) (lt→ltb (low j) (end j) (omega arith)))
        (λ t. let from = ltb→lt since (end j) (and_l (ltb since (end j)) (ltb (low j) (end j)) t) in
        let some = ltb→lt (low j) (end j) (and_r (ltb since (end j)) (ltb (low j) (end j)) t) in
        let earlier = origins.earlier j within in
        let last : ℕ = end j - 1 in
        let below : last < j = omega arith in
        best_some kept.less (arrival q kept s row j) j last below
        (subst T (sym (goes last below))
        (and_i (leb (low j) last && ltb last (end j)) (leb since last)
        (and_i (leb (low j) last) (ltb last (end j)) (le→leb (low j) last (omega arith)) (lt→ltb last (end j) (omega arith)))
        (le→leb since last (omega arith)))))
      where
        goes : (i : ℕ) → i < j → is_held (arrival q kept s row j i) ≡ (in_range (low j) (end j) i && leb since i)
        goes i h = arrival_held q kept s row j i ∙ ap₂ ◌&&◌ (origins.ranged i j h within) (reached i (omega arith))

    pub rows_reach : (s j : ℕ) → j < q.size → is_held (rows q kept s j) ≡ leb (first_reached low end q.size s) j
    unfolding rows first_reached
    rows_reach zero j within =
        sweep_held kept (λ (i : ℕ). held (kept.fresh i)) j
        ∙ same_test (is_held (best kept.less (suc j) (λ (i : ℕ). held (kept.fresh i)))) (leb 0 j) (λ t. le→leb 0 j (omega arith))
        (λ t. best_some kept.less (λ (i : ℕ). held (kept.fresh i)) (suc j) j (omega arith) tt)
    rows_reach (suc s) j within =
        let since : ℕ = first_reached low end q.size s in
        sweep_reach kept (λ (i : ℕ). best kept.less i (arrival q kept s (rows q kept s) i)) (arrives_from low end since) q.size
        (arrives s since (rows q kept s) (rows_reach s)) j within

    pub arrives_exactly : (s j : ℕ) → j < q.size
        → is_held (best kept.less j (arrival q kept s (rows q kept s) j)) ≡ arrives_from low end (first_reached low end q.size s) j
    arrives_exactly s = arrives s (first_reached low end q.size s) (rows q kept s) (rows_reach s)

  pub chosen_reach : (k : ℕ) → is_held (chosen_path q k) ≡ ltb (first_reached low end q.size k) q.size
  unfolding chosen_path
  chosen_reach k =
      let since : ℕ = first_reached low end q.size k in
      same_test (is_held (chosen_path q k)) (ltb since q.size)
      (λ t. let found = best_from (λ p r. lt (sum q p) (sum q r)) (rows q (paths q) k) q.size t in
      let i : ℕ = found.0 in
      let below : i < q.size = found.1 in
      let from = leb→le since i (subst T (rows_reach (paths q) k i below) found.2) in
      lt→ltb since q.size (omega arith))
      (λ t. let below = ltb→lt since q.size t in
      best_some (λ p r. lt (sum q p) (sum q r)) (rows q (paths q) k) q.size since below
      (subst T (sym (rows_reach (paths q) k since below)) (le→leb since since (le_refl since))))

  pub none_chosen : (k : ℕ) → q.size ≤ first_reached low end q.size k → chosen_path q k ≡ empty
  none_chosen k h = empty_is (chosen_path q k) (chosen_reach k ∙ le-ltb (first_reached low end q.size k) q.size h)

-- what is reached first goes by the origins of the n boundaries alone
pub reached_same :
    (low end low' end' : ℕ → ℕ) (n : ℕ) → ((j : ℕ) → j < n → low j ≡ low' j) → ((j : ℕ) → j < n → end j ≡ end' j) → (s : ℕ) →
    first_reached low end n s ≡ first_reached low' end' n s
unfolding first_reached
reached_same low end low' end' n lows ends zero = refl
reached_same low end low' end' n lows ends (suc s) =
    first_same n (arrives_from low end (first_reached low end n s)) (arrives_from low' end' (first_reached low' end' n s)) 0 n
    (λ j h k. rw (reached_same low end low' end' n lows ends s, lows j (omega arith), ends j (omega arith)))
