-- The invariants of the two loops that lay the origins of each boundary, and their turns: each target in turn takes the origin in, and at
-- the break no later target would take it in.
use Prim.Native.Nat.{ℕ, suc, ◌+◌, ◌-◌, ◌≤◌, ◌<◌}
use mathlib.Core.Bool.{Bool, true, false, cond, ◌&&◌, ◌||◌, and-false}
use mathlib.Core.List.{List}
use mathlib.Core.Logic.{◌≢◌}
use mathlib.Core.Path.{◌≡◌, refl, sym, ap, ap₂, subst, ◌∙◌}
use native.Mathlib.Nat.{zero-add}
use native.Mathlib.Numerals.{add-one}
use native.Mathlib.Omega.{arith}
use borrow.Author.Tests.{le-leb, lt-leb, ltb-true, ltb-false, eq-eqb, ne_eqb}
use lib.Dec.{eqb, leb, ltb}
use lib.ListN.{length, get_or, set, replicate, length-set, length-replicate, get_or-replicate, get_or-eq_default}
use lib.Seq.{get_or-set_same, get_or-set_other, ext_get_or}
use Rattle.laws.proofs.Numbers.{by_order}
use Rattle.laws.proofs.Choices.{neither_left, neither_right, one_passes}
use Rattle.laws.proofs.Range.{none_passes, first_same, past_le, past_same, past_passes, past_fails, first_fails, first_new, first_stays, past_on, first_on}
use Rattle.laws.proofs.Listed.{length_listed, padded_out, length_table, table_at_law, table_same}
use Rattle.laws.specs.Listed.{listed}
use Rattle.laws.specs.Inner.Tables.{table_of}
use Rattle.laws.specs.Inner.Range.{first_from, past_last}
use Rattle.paths.specs.Inner.Order.{Increasing}
use Rattle.limits.specs.Common.{shortest_unit, longest_unit}
use Rattle.paths.specs.Units.{fits_unit}
use Rattle.paths.proofs.Frames.{increasing_le}
use Rattle.limits.specs.Capacity.{most_boundaries}
use Rattle.stages.specs.declared.stage_tables.Origins.{Origins}
use Rattle.stages.specs.Ranges.{entry_of, unit_to, anchored_to, Ranged, no_origins, with_origin, Ends}

-- the arrays have a boundary's entry for the most boundaries
pub record Sized (origins : Origins) : Type 0 where
  pub low : length origins.low ≡ most_boundaries
  pub middle : length origins.ends.strict ≡ most_boundaries
  pub high : length origins.ends.relaxed ≡ most_boundaries

-- of boundary j the origins among the first m numbers are taken in
pub record Holds (bounds : List ℕ) (first second : ℕ → ℕ) (origins : Origins) (j m : ℕ) : Type 0 where
  pub low : get_or origins.low j 0 ≡ first_from 0 (unit_to bounds second j) 0 m
  pub middle : get_or origins.ends.strict j 0 ≡ past_last (anchored_to bounds first second j) m
  pub high : get_or origins.ends.relaxed j 0 ≡ past_last (unit_to bounds second j) m

-- origins below i are done
pub record Done (bounds : List ℕ) (first second : ℕ → ℕ) (origins : Origins) (i : ℕ) : Type 0 where
  pub bounded : i ≤ length bounds
  pub sized : Sized origins
  pub done : (j : ℕ) → j < most_boundaries → Holds bounds first second origins j i

-- of origin i, targets below j are done
pub record Targets (bounds : List ℕ) (first second : ℕ → ℕ) (origins : Origins) (i j : ℕ) : Type 0 where
  pub origin : i < j
  pub bounded : j ≤ length bounds
  pub sized : Sized origins
  pub near : (target : ℕ) → target < j → target < most_boundaries → Holds bounds first second origins target (suc i)
  pub far : (target : ℕ) → j ≤ target → target < most_boundaries → Holds bounds first second origins target i

-- ---- one origin more

-- a store that is made or not
set_either : (passes : Bool) (l : List ℕ) (at x : ℕ) → length (cond passes (set l at x) l) ≡ length l
set_either true l at x = length-set l at x
set_either false l at x = refl

set_beside : (passes : Bool) (l : List ℕ) (at x k : ℕ) → k ≢ at → get_or (cond passes (set l at x) l) k 0 ≡ get_or l k 0
set_beside true l at x k ne = get_or-set_other l at k x 0 ne
set_beside false l at x k ne = refl

set_there : (passes : Bool) (l : List ℕ) (at x : ℕ) → at < length l → get_or (cond passes (set l at x) l) at 0 ≡ cond passes x (get_or l at 0)
set_there true l at x h = get_or-set_same l at x 0 h
set_there false l at x h = refl

with_sized : (origins : Origins) (i j : ℕ) (anchored : Bool) → Sized origins → Sized (with_origin origins i j anchored)
unfolding with_origin
with_sized origins i j anchored sized = record {
  low = set_either (eqb (get_or origins.ends.relaxed j 0) 0) origins.low j i ∙ sized.low;
  middle = set_either anchored origins.ends.strict j (i + 1) ∙ sized.middle;
  high = length-set origins.ends.relaxed j (i + 1) ∙ sized.high;
}

-- ---- which units there are

module _ (bounds : List ℕ) (second : ℕ → ℕ) where
  -- the code's test that the look ahead is to stop
  abbrev pub stops : ℕ → ℕ → Bool
  stops i j = ltb longest_unit (get_or bounds j 0 - get_or bounds i 0) || ltb (second i) (get_or bounds j 0)

  -- a unit goes to a later boundary
  none_back : (i j : ℕ) → get_or bounds j 0 ≤ get_or bounds i 0 → unit_to bounds second j i ≡ false
  none_back i j h =
      let none : get_or bounds j 0 - get_or bounds i 0 ≡ 0 = omega arith in
      ap (λ (frames : ℕ). fits_unit frames && leb (get_or bounds j 0) (second i)) none

  none_later : Increasing bounds → (i j : ℕ) → j ≤ i → i < length bounds → unit_to bounds second j i ≡ false
  none_later increasing i j h k = none_back i j (increasing_le bounds increasing j i h k)

  none_beyond : (i j : ℕ) → length bounds ≤ j → unit_to bounds second j i ≡ false
  none_beyond i j h = none_back i j (omega (arith, get_or-eq_default bounds 0 h))

  pub none_short : (i j : ℕ) → get_or bounds j 0 - get_or bounds i 0 < shortest_unit → unit_to bounds second j i ≡ false
  none_short i j h = rw (lt-leb shortest_unit (get_or bounds j 0 - get_or bounds i 0) h)

  -- "stops for good"
  pub none_past : (i j target : ℕ) → get_or bounds j 0 ≤ get_or bounds target 0 → stops i j ≡ true → unit_to bounds second target i ≡ false
  none_past i j target h e =
      let frames = get_or bounds target 0 - get_or bounds i 0 in
      one_passes (ltb longest_unit (get_or bounds j 0 - get_or bounds i 0)) (ltb (second i) (get_or bounds j 0)) e
      (λ far. rw (lt-leb frames longest_unit (omega (arith, ltb-true longest_unit (get_or bounds j 0 - get_or bounds i 0) far)), and-false))
      (λ crowded. rw (lt-leb (get_or bounds target 0) (second i) (omega (arith, ltb-true (second i) (get_or bounds j 0) crowded)), and-false))

  pub one_unit : (i j : ℕ) → stops i j ≡ false → shortest_unit ≤ get_or bounds j 0 - get_or bounds i 0 → unit_to bounds second j i ≡ true
  one_unit i j e h =
      let frames = get_or bounds j 0 - get_or bounds i 0 in
      let to = get_or bounds j 0 in
      rw (
        le-leb shortest_unit frames h,
        le-leb frames longest_unit (ltb-false longest_unit frames (neither_left (ltb longest_unit frames) (ltb (second i) to) e)),
        le-leb to (second i) (ltb-false (second i) to (neither_right (ltb longest_unit frames) (ltb (second i) to) e)),
      )

-- ---- the origins of one boundary

module _ {bounds : List ℕ} {first second : ℕ → ℕ} {origins : Origins} (i j : ℕ) where
  holds_fails : unit_to bounds second j i ≡ false → Holds bounds first second origins j i → Holds bounds first second origins j (suc i)
  holds_fails none was = record {
    low = was.low ∙ sym (first_fails (unit_to bounds second j) i 0 none);
    middle = was.middle
        ∙ sym (past_fails (anchored_to bounds first second j) i (ap (λ (unit : Bool). unit && ltb (first i) (get_or bounds j 0)) none));
    high = was.high ∙ sym (past_fails (unit_to bounds second j) i none);
  }

  holds_beside : (anchored : Bool) (target m : ℕ) → target ≢ j → Holds bounds first second origins target m
      → Holds bounds first second (with_origin origins i j anchored) target m
  unfolding with_origin
  holds_beside anchored target m ne was = record {
    low = set_beside (eqb (get_or origins.ends.relaxed j 0) 0) origins.low j i target ne ∙ was.low;
    middle = set_beside anchored origins.ends.strict j (i + 1) target ne ∙ was.middle;
    high = get_or-set_other origins.ends.relaxed j target (i + 1) 0 ne ∙ was.high;
  }

  -- the lowest origin is the first that is taken in
  low_taken : unit_to bounds second j i ≡ true → Holds bounds first second origins j i
      → cond (eqb (get_or origins.ends.relaxed j 0) 0) i (get_or origins.low j 0) ≡ first_from 0 (unit_to bounds second j) 0 (suc i)
  low_taken one was =
      let high = get_or origins.ends.relaxed j 0 in
      by_order 0 high
      (λ some.
      ap (λ (none : Bool). cond none i (get_or origins.low j 0)) (ne_eqb high 0 (λ e. omega arith)) ∙ was.low
      ∙ sym (first_stays (unit_to bounds second j) i 0 (omega (arith, was.high))))
      (λ none.
      ap (λ (none : Bool). cond none i (get_or origins.low j 0)) (eq-eqb high 0 (omega arith))
      ∙ sym (first_new (unit_to bounds second j) i 0 (omega (arith, was.high)) one))

  middle_taken : unit_to bounds second j i ≡ true → Holds bounds first second origins j i
      → cond (ltb (first i) (get_or bounds j 0)) (i + 1) (get_or origins.ends.strict j 0)
      ≡ past_last (anchored_to bounds first second j) (suc i)
  middle_taken one was = go (ltb (first i) (get_or bounds j 0)) (ap (λ (unit : Bool). unit && ltb (first i) (get_or bounds j 0)) one)
    where
      go : (anchored : Bool) → anchored_to bounds first second j i ≡ anchored
          → cond anchored (i + 1) (get_or origins.ends.strict j 0) ≡ past_last (anchored_to bounds first second j) (suc i)
      go true e = add-one i ∙ sym (past_passes (anchored_to bounds first second j) i e)
      go false e = was.middle ∙ sym (past_fails (anchored_to bounds first second j) i e)

  holds_taken : unit_to bounds second j i ≡ true → j < most_boundaries → Sized origins → Holds bounds first second origins j i
      → Holds bounds first second (with_origin origins i j (ltb (first i) (get_or bounds j 0))) j (suc i)
  unfolding with_origin
  holds_taken one inside sized was = record {
    low = set_there (eqb (get_or origins.ends.relaxed j 0) 0) origins.low j i (omega (arith, sized.low)) ∙ low_taken one was;
    middle =
        set_there (ltb (first i) (get_or bounds j 0)) origins.ends.strict j (i + 1) (omega (arith, sized.middle)) ∙ middle_taken one was;
    high =
        get_or-set_same origins.ends.relaxed j (i + 1) 0 (omega (arith, sized.high)) ∙ add-one i
        ∙ sym (past_passes (unit_to bounds second j) i one);
  }

-- ---- the targets of one origin

pub origins_begin : (bounds : List ℕ) (first second : ℕ → ℕ) {origins : Origins} → origins ≡ no_origins → Done bounds first second origins 0
unfolding first_from past_last
origins_begin bounds first second {origins} fresh = record {
  bounded = omega arith;
  sized = record { low = empty (λ o. o.low) refl; middle = empty (λ o. o.ends.strict) refl; high = empty (λ o. o.ends.relaxed) refl };
  done = λ j h. record {
    low = nothing (λ o. o.low) j refl h;
    middle = nothing (λ o. o.ends.strict) j refl h;
    high = nothing (λ o. o.ends.relaxed) j refl h;
  };
}
  where
    empty : (table : Origins → List ℕ) → table no_origins ≡ replicate most_boundaries 0 → length (table origins) ≡ most_boundaries
    empty table is =
        ap (λ (o : Origins). length (table o)) fresh ∙ ap length is ∙ length-replicate {A = ℕ} most_boundaries 0

    nothing : (table : Origins → List ℕ) (at : ℕ) → table no_origins ≡ replicate most_boundaries 0 → at < most_boundaries
        → get_or (table origins) at 0 ≡ 0
    nothing table at is h =
        ap (λ (o : Origins). get_or (table o) at 0) fresh ∙ ap (λ (l : List ℕ). get_or l at 0) is
        ∙ get_or-replicate most_boundaries at 0 0 h

module _ {bounds : List ℕ} {first second : ℕ → ℕ} (increasing : Increasing bounds) where
  pub targets_begin : {origins : Origins} {i : ℕ} → Done bounds first second origins i → i < length bounds
      → Targets bounds first second origins i (i + 1)
  targets_begin {origins} {i} was more = record {
    origin = omega arith;
    bounded = omega arith;
    sized = was.sized;
    near = λ target h inside. holds_fails i target (none_later bounds second increasing i target (omega arith) more)
        (was.done target inside);
    far = λ target h inside. was.done target inside;
  }

  -- after the last target, or where no later one takes the origin in, the origin is done
  pub targets_end : {origins : Origins} {i j : ℕ} → Targets bounds first second origins i j
      → ((target : ℕ) → j ≤ target → target < length bounds → unit_to bounds second target i ≡ false)
      → Done bounds first second origins (i + 1)
  targets_end {origins} {i} {j} at none = record {
    bounded = omega (arith, at.origin, at.bounded);
    sized = at.sized;
    done = λ target inside. subst (Holds bounds first second origins target) (sym (add-one i))
        (by_order target j (λ less. at.near target less inside)
        (λ more. holds_fails i target
        (by_order target (length bounds) (none target more) (none_beyond bounds second i target)) (at.far target more inside)));
  }

module _ {bounds : List ℕ} {first second : ℕ → ℕ} {origins : Origins} {i j : ℕ} (was : Targets bounds first second origins i j)
    (more : j < length bounds) where
  pub target_fails : unit_to bounds second j i ≡ false → Targets bounds first second origins i (j + 1)
  target_fails none = record {
    origin = omega (arith, was.origin);
    bounded = omega arith;
    sized = was.sized;
    near = λ target h inside. by_order target j (λ less. was.near target less inside)
        (λ same. subst (λ (t : ℕ). Holds bounds first second origins t (suc i)) (here target h same)
        (holds_fails i j none (was.far j (omega arith) (omega arith))));
    far = λ target h inside. was.far target (omega arith) inside;
  }
    where
      here : (target : ℕ) → target < j + 1 → j ≤ target → j ≡ target
      here target h same = omega arith

  pub target_taken : length bounds ≤ most_boundaries → unit_to bounds second j i ≡ true
      → Targets bounds first second (with_origin origins i j (ltb (first i) (get_or bounds j 0))) i (j + 1)
  target_taken few one = record {
    origin = omega (arith, was.origin);
    bounded = omega arith;
    sized = with_sized origins i j anchored was.sized;
    near = λ target h inside. by_order target j
        (λ less. holds_beside i j anchored target (suc i) (λ e. omega arith) (was.near target less inside))
        (λ same. subst (λ (t : ℕ). Holds bounds first second (with_origin origins i j anchored) t (suc i)) (here target h same)
        (holds_taken i j one (omega arith) was.sized (was.far j (omega arith) (omega arith))));
    far = λ target h inside. holds_beside i j anchored target i (λ e. omega arith) (was.far target (omega arith) inside);
  }
    where
      anchored : Bool
      anchored = ltb (first i) (get_or bounds j 0)

      here : (target : ℕ) → target < j + 1 → j ≤ target → j ≡ target
      here target h same = omega arith

-- ---- the tables

-- a list that holds a table's entries
table_is : (f : ℕ → ℕ) (n size : ℕ) (list : List ℕ) → n ≤ size → length list ≡ size → ((i : ℕ) → i < n → get_or list i 0 ≡ f i)
    → ((i : ℕ) → n ≤ i → i < size → get_or list i 0 ≡ 0) → list ≡ table_of f n size 0
table_is f n size list few long inside outside =
    ext_get_or 0 list (table_of f n size 0) (long ∙ sym (length_table f n size 0 few)) (λ i h.
    by_order i n
    (λ less. inside i less ∙ sym (table_at_law f n size 0 0 i less))
    (λ more. outside i more (omega arith) ∙ sym (padded_out (listed f n) size 0 0 i (omega (arith, length_listed f n)) (omega arith))))

-- The table in which the entry of boundary j is what some figure makes of the first n numbers. Neither numbers from j on change it, nor any of
-- a boundary past the last.
laid_table : (table : List ℕ) (n : ℕ) (figure : ℕ → ℕ → ℕ) → n ≤ most_boundaries → length table ≡ most_boundaries
    → ((j : ℕ) → j < most_boundaries → get_or table j 0 ≡ figure j n) → ((j : ℕ) → j < n → figure j n ≡ figure j j)
    → ((j : ℕ) → n ≤ j → figure j n ≡ 0) → table ≡ table_of (λ j. figure j j) n most_boundaries 0
laid_table table n figure few long entries still none =
    table_is (λ j. figure j j) n most_boundaries table few long
    (λ j less. entries j (omega arith) ∙ still j less) (λ j more inside. entries j inside ∙ none j more)

module _ (tests : ℕ → ℕ → Bool) (n : ℕ) (later : (i j : ℕ) → j ≤ i → i < n → tests j i ≡ false)
    (beyond : (i j : ℕ) → n ≤ j → tests j i ≡ false) where
  up_to : (j : ℕ) → j < n → j + (n - j) ≡ n
  up_to j h = omega arith

  past_still : (j : ℕ) → j < n → past_last (tests j) n ≡ past_last (tests j) j
  past_still j h = ap (past_last (tests j)) (sym (up_to j h)) ∙ past_on (tests j) j (n - j) (λ i a b. later i j a (omega arith))

  past_none : (j : ℕ) → n ≤ j → past_last (tests j) n ≡ 0
  unfolding past_last
  past_none j h = ap (past_last (tests j)) (sym (zero-add n)) ∙ past_on (tests j) 0 n (λ i a b. beyond i j h)

  first_still : (j : ℕ) → j < n → first_from 0 (tests j) 0 n ≡ first_from 0 (tests j) 0 j
  first_still j h = ap (first_from 0 (tests j) 0) (sym (up_to j h)) ∙ first_on 0 (tests j) j (n - j) (λ i a b. later i j a (omega arith))

  first_none : (j : ℕ) → n ≤ j → first_from 0 (tests j) 0 n ≡ 0
  first_none j h = none_passes 0 (tests j) 0 n (λ i a b. beyond i j h)

pub origins_end_law : {bounds : List ℕ} {first second : ℕ → ℕ} {origins : Origins} {i : ℕ} → Increasing bounds
    → length bounds ≤ most_boundaries → Done bounds first second origins i → length bounds ≤ i
    → Ranged bounds first second origins
origins_end_law {bounds} {first} {second} {origins} {i} increasing few was all = record {
  lows = laid_table origins.low n (λ j m. first_from 0 (unit_to bounds second j) 0 m) few was.sized.low (λ j h. (done j h).low)
      (first_still (unit_to bounds second) n (none_later bounds second increasing) (none_beyond bounds second))
      (first_none (unit_to bounds second) n (none_later bounds second increasing) (none_beyond bounds second));
  middles =
      laid_table origins.ends.strict n (λ j m. past_last (anchored_to bounds first second j) m) few was.sized.middle (λ j h. (done j h).middle)
      (past_still (anchored_to bounds first second) n later beyond) (past_none (anchored_to bounds first second) n later beyond);
  highs = laid_table origins.ends.relaxed n (λ j m. past_last (unit_to bounds second j) m) few was.sized.high (λ j h. (done j h).high)
      (past_still (unit_to bounds second) n (none_later bounds second increasing) (none_beyond bounds second))
      (past_none (unit_to bounds second) n (none_later bounds second increasing) (none_beyond bounds second));
}
  where
    n : ℕ
    n = length bounds

    done : (j : ℕ) → j < most_boundaries → Holds bounds first second origins j n
    done j h = let e : i ≡ n = omega (arith, was.bounded) in subst (Holds bounds first second origins j) e (was.done j h)

    later : (i j : ℕ) → j ≤ i → i < n → anchored_to bounds first second j i ≡ false
    later i j h k = ap (λ (unit : Bool). unit && ltb (first i) (get_or bounds j 0)) (none_later bounds second increasing i j h k)

    beyond : (i j : ℕ) → n ≤ j → anchored_to bounds first second j i ≡ false
    beyond i j h = ap (λ (unit : Bool). unit && ltb (first i) (get_or bounds j 0)) (none_beyond bounds second i j h)

-- ---- the tables by other tests that say the same of each boundary and an earlier one

module _ (tests tests' : ℕ → ℕ → Bool) (n : ℕ) (same : (i j : ℕ) → i < j → j < n → tests j i ≡ tests' j i) where
  pub lows_same : table_of (λ j. first_from 0 (tests j) 0 j) n most_boundaries 0 ≡ table_of (λ j. first_from 0 (tests' j) 0 j) n most_boundaries 0
  lows_same =
      table_same (λ j. first_from 0 (tests j) 0 j) (λ j. first_from 0 (tests' j) 0 j) n most_boundaries 0
      (λ j h. first_same 0 (tests j) (tests' j) 0 j (λ i _ k. same i j (omega arith) h))

  pub ends_same : table_of (λ j. past_last (tests j) j) n most_boundaries 0 ≡ table_of (λ j. past_last (tests' j) j) n most_boundaries 0
  ends_same =
      table_same (λ j. past_last (tests j) j) (λ j. past_last (tests' j) j) n most_boundaries 0
      (λ j h. past_same (tests j) (tests' j) j (λ i k. same i j k h))

-- by other names of the two frames ahead of each boundary
pub ranged_by : {bounds : List ℕ} {first second first' second' : ℕ → ℕ} {origins : Origins}
    → ((i : ℕ) → i < length bounds → first i ≡ first' i)
    → ((i : ℕ) → i < length bounds → second i ≡ second' i) → Ranged bounds first second origins → Ranged bounds first' second' origins
ranged_by {bounds} {first} {second} {first'} {second'} firsts seconds ranged = record {
  lows = ranged.lows ∙ lows_same (unit_to bounds second) (unit_to bounds second') (length bounds) units;
  middles = ranged.middles
      ∙ ends_same (anchored_to bounds first second) (anchored_to bounds first' second') (length bounds) (λ i j h k.
      ap₂ (λ (unit : Bool) (frame : ℕ). unit && ltb frame (get_or bounds j 0)) (units i j h k) (firsts i (omega arith)));
  highs = ranged.highs ∙ ends_same (unit_to bounds second) (unit_to bounds second') (length bounds) units;
}
  where
    units : (i j : ℕ) → i < j → j < length bounds → unit_to bounds second j i ≡ unit_to bounds second' j i
    units i j h k =
        ap (λ (frame : ℕ). fits_unit (get_or bounds j 0 - get_or bounds i 0) && leb (get_or bounds j 0) frame) (seconds i (omega arith))

-- ---- where the origins end

entries_earlier : (tests : ℕ → ℕ → Bool) (n : ℕ) (ends : List ℕ) → ends ≡ table_of (λ j. past_last (tests j) j) n most_boundaries 0 → (j : ℕ)
    → j < n
    → entry_of ends j ≤ j
entries_earlier tests n ends e j h =
    omega (arith, ap (λ (l : List ℕ). entry_of l j) e ∙ table_at_law (λ i. past_last (tests i) i) n most_boundaries 0 0 j h, past_le (tests j) j)

pub ranged_ends : {bounds : List ℕ} {first second : ℕ → ℕ} {origins : Origins} → length bounds ≤ most_boundaries
    → Ranged bounds first second origins
    → Ends origins.low origins.ends.strict (length bounds) × Ends origins.low origins.ends.relaxed (length bounds)
ranged_ends {bounds} {first} {second} {origins} few ranged =
    let n = length bounds in
    let lows = long (λ j. first_from 0 (unit_to bounds second j) 0 j) ranged.lows in (
      record {
        lows = lows;
        tops = long (λ j. past_last (anchored_to bounds first second j) j) ranged.middles;
        earlier = entries_earlier (anchored_to bounds first second) n origins.ends.strict ranged.middles;
      },
      record {
        lows = lows;
        tops = long (λ j. past_last (unit_to bounds second j) j) ranged.highs;
        earlier = entries_earlier (unit_to bounds second) n origins.ends.relaxed ranged.highs;
      },
    )
  where
    long : (f : ℕ → ℕ) {table : List ℕ} → table ≡ table_of f (length bounds) most_boundaries 0 → length bounds ≤ length table
    long f e = omega (arith, few, ap length e ∙ length_table f (length bounds) most_boundaries 0 few)
