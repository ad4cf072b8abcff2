-- An ascending list split at a frame: the place of the split has the highest frame below and the lowest from there on. So each frame's
-- neighbours stand beside it.
use Prim.Native.Nat.{ℕ, zero, suc, ◌+◌, ◌≤◌, ◌<◌, max, min}
use mathlib.Core.Path.{◌≡◌, refl, sym, ap}
use mathlib.Core.List.{List, [], ◌∷◌}
use mathlib.Core.Logic.{⊎_elim}
use native.Mathlib.Nat.{not-suc-le-zero, le_of_suc-le-suc, eq-or-lt_of_le}
use native.Mathlib.Numerals.{add-one}
use native.Mathlib.Omega.{arith}
use borrow.Author.Tests.{lt-ltb, le-ltb, lt-leb, le-leb}
use lib.ListN.{length, get_or, get_or-eq_default}
use Rattle.laws.proofs.Numbers.{by_order}
use Rattle.frames.specs.Frames.{highest_below, lowest_from}
use Rattle.std.specs.Prelude.{Some, None, unwrap_or}
use Rattle.std.proofs.lemmas.List.{get_or_default}
use Rattle.spans.specs.Inner.Walk.{Increasing, Below, Splits}

climbs : (l : List ℕ) → Increasing l → (i j : ℕ) → i < j → j < length l → get_or l i 0 < get_or l j 0
climbs l up i zero h within = absurd (not-suc-le-zero h)
climbs l up i (suc j) h within =
    let next = up j within in
    ⊎_elim (λ (e : i ≡ j). rw e next) (λ less. let first = climbs l up i j less (omega arith) in omega arith)
    (eq-or-lt_of_le (le_of_suc-le-suc h))

-- what is below a frame is below a higher one
pub below_higher : {l : List ℕ} {f at : ℕ} (g : ℕ) → Below l f at → f ≤ g → Below l g at
below_higher g b h = record { within = b.within; each = λ i inside. let under = b.each i inside in omega arith }

-- without the first frame
later : (x : ℕ) (xs : List ℕ) → Increasing (x ∷ xs) → Increasing xs
later x xs up i h = up (suc i) (omega arith)

below_later : {x f at : ℕ} {xs : List ℕ} → Below (x ∷ xs) f (suc at) → Below xs f at
below_later b = record { within = le_of_suc-le-suc b.within; each = λ i h. b.each (suc i) (omega arith) }

splits_later : {x f at : ℕ} {xs : List ℕ} → Splits (x ∷ xs) f (suc at) → Splits xs f at
splits_later s = record { front = below_later s.front; rest = λ h. s.rest (omega arith) }

-- where no frame is below f
none_later : {x f : ℕ} {xs : List ℕ} → Splits (x ∷ xs) f 0 → Increasing (x ∷ xs) → Splits xs f 0
none_later {x} {f} {xs} s up =
    record {
      front = record { within = omega arith; each = λ i h. absurd (not-suc-le-zero h) };
      rest = λ h. let first : f ≤ x = s.rest (omega arith) in let next = up 0 (omega arith) in omega arith;
    }

module _ (f : ℕ) where
  pub none_before : (l : List ℕ) → Increasing l → Splits l f 0 → highest_below f l ≡ None
  unfolding highest_below
  none_before [] up s = refl
  none_before (x ∷ xs) up s =
      let above : f ≤ x = s.rest (omega arith) in
      rw (le-ltb x f above) (none_before xs (later x xs up) (none_later s up))

  pub highest_before : (l : List ℕ) → Increasing l → (i : ℕ) → Splits l f (suc i) → highest_below f l ≡ Some (get_or l i 0)
  unfolding highest_below
  highest_before [] up i s = absurd (not-suc-le-zero s.front.within)
  highest_before (x ∷ xs) up zero s =
      let under : x < f = s.front.each 0 (omega arith) in
      rw (lt-ltb x f under, none_before xs (later x xs up) (splits_later s))
  highest_before (x ∷ xs) up (suc i) s =
      let under : x < f = s.front.each 0 (omega arith) in
      let last : max x (get_or xs i 0) ≡ get_or xs i 0 = (let climb = climbs (x ∷ xs) up 0 (suc i) (omega arith) s.front.within in omega arith) in
      rw (lt-ltb x f under, highest_before xs (later x xs up) i (splits_later s)) (ap Some last)

  pub none_from : (l : List ℕ) (at : ℕ) → Splits l f at → length l ≤ at → lowest_from f l ≡ None
  unfolding lowest_from
  none_from [] at s h = refl
  none_from (x ∷ xs) zero s h = absurd (not-suc-le-zero h)
  none_from (x ∷ xs) (suc at) s h =
      let under : x < f = s.front.each 0 (omega arith) in
      rw (lt-leb f x under) (none_from xs at (splits_later s) (le_of_suc-le-suc h))

  pub lowest_at : (l : List ℕ) → Increasing l → (at : ℕ) → Splits l f at → at < length l → lowest_from f l ≡ Some (get_or l at 0)
  unfolding lowest_from
  lowest_at [] up at s h = absurd (not-suc-le-zero h)
  lowest_at (x ∷ xs) up (suc at) s h =
      let under : x < f = s.front.each 0 (omega arith) in
      rw (lt-leb f x under) (lowest_at xs (later x xs up) at (splits_later s) (le_of_suc-le-suc h))
  lowest_at (x ∷ []) up zero s h = rw (le-leb f x (s.rest h))
  lowest_at (x ∷ y ∷ ys) up zero s h =
      let first : min x y ≡ x = (let next = up 0 (omega arith) in omega arith) in
      rw (le-leb f x (s.rest h), lowest_at (y ∷ ys) (later x (y ∷ ys) up) 0 (none_later s up) (omega arith)) (ap Some first)

  -- the frame there, or what stands in for it
  pub lowest_or : (l : List ℕ) → Increasing l → (at : ℕ) → Splits l f at → (other : ℕ) → unwrap_or (lowest_from f l) other ≡ get_or l at other
  lowest_or l up at s other =
      by_order at (length l) (λ within. rw (lowest_at l up at s within) (get_or_default l at 0 other within))
      (λ past. rw (none_from l at s past) (sym (get_or-eq_default l other past)))

-- ---- a list at its own frames

-- the next frame, by its place as code counts it
pub climbs_next : (l : List ℕ) → Increasing l → (i : ℕ) → i + 1 < length l → get_or l i 0 + 1 ≤ get_or l (i + 1) 0
climbs_next l up i h = rw (add-one i) (let next = up i (omega arith) in omega arith)

module _ (l : List ℕ) (up : Increasing l) (i : ℕ) (inside : i < length l) where
  pub own_split : Splits l (get_or l i 0) i
  own_split = record { front = record { within = omega arith; each = λ j h. climbs l up j i h inside }; rest = λ _. omega arith }

  pub next_split : Splits l (get_or l i 0 + 1) (suc i)
  next_split =
      record {
        front = record { within = inside; each = λ j h. under j (le_of_suc-le-suc h) };
        rest = λ h. let next = up i h in omega arith;
      }
    where
      under : (j : ℕ) → j ≤ i → get_or l j 0 < get_or l i 0 + 1
      under j h = by_order j i (λ less. let climb = climbs l up j i less inside in omega arith) (λ more. let same : j ≡ i = omega arith in rw same (omega arith))
