-- Laws of a creaky tail: one turn and the end of the walk down to the last pitched frame, and how long a run is at most.
use Prim.Native.Nat.{ℕ, zero, suc, ◌-◌, ◌≤◌, ◌<◌, zero-le, suc-le-suc}
use mathlib.Core.Bool.{Bool, true, false, cond}
use mathlib.Core.Path.{◌≡◌, refl, ◌∙◌}
use mathlib.Core.List.{List}
use native.Mathlib.Nat.{not-suc-le-zero, le_of_suc-le-suc}
use native.Mathlib.Numerals.{sub-one}
use borrow.Author.Tests.{le-leb, lt-leb}
use Rattle.evidence.specs.Masks.{marked}
use Rattle.evidence.specs.CreakyTail.{last_pitched, in_tail, run_from}
use Rattle.std.specs.Prelude.{Some, None}

module _ (pitched : List ℕ) (start : ℕ) where
  last_turn : (i : ℕ) → start < i
      → last_pitched pitched start i ≡ cond (marked pitched (i - 1)) (Some (i - 1)) (last_pitched pitched start (i - 1))
  unfolding last_pitched
  last_turn zero h = absurd (not-suc-le-zero h)
  last_turn (suc e) h = rw (sub-one, le-leb start e (le_of_suc-le-suc h))

  pub last_here : (i : ℕ) → start < i → marked pitched (i - 1) ≡ true → last_pitched pitched start i ≡ Some (i - 1)
  last_here i h e = last_turn i h ∙ rw e

  pub last_before_law : (i : ℕ) → start < i → marked pitched (i - 1) ≡ false → last_pitched pitched start i ≡ last_pitched pitched start (i - 1)
  last_before_law i h e = last_turn i h ∙ rw e

  pub last_none : (i : ℕ) → i ≤ start → last_pitched pitched start i ≡ None
  unfolding last_pitched
  last_none zero h = refl
  last_none (suc e) h = rw (lt-leb start e h)

module _ (pitched vowel : List ℕ) where
  pub run_le : (i n : ℕ) → run_from pitched vowel i n ≤ n
  unfolding run_from
  run_le i zero = zero-le
  run_le i (suc n) = go (in_tail pitched vowel i) (run_le (suc i) n)
    where
      go : (b : Bool) {k : ℕ} → k ≤ n → cond b (suc k) 0 ≤ suc n
      go true h = suc-le-suc h
      go false h = zero-le
