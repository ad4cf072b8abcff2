-- The origins of the units that end at a boundary are one range: up to 80 frames and at most one anchor are kept from a later origin, and
-- 6 frames and at least one anchor from an earlier one. And the anchor that such a unit holds is the last before its end. Assumes nothing.
use mathlib.Core.Path.{◌≡◌, refl, sym, ap, subst, ◌∙◌}
use mathlib.Core.Bool.{Bool, not, cond, ◌&&◌, and_comm, and_assoc}
use mathlib.Core.List.{List, [], ◌∷◌}
use Prim.Native.Nat.{ℕ, ◌-◌, ◌≤◌, ◌<◌}
use native.Mathlib.Nat.{le_refl}
use native.Mathlib.Omega.{arith}
use Rattle.laws.specs.Inner.Range.{past_last}
use Rattle.laws.proofs.Numbers.{by_order}
use lib.Dec.{T, T_not, leb, ltb, eqb, leb→le, le→leb, nleb→lt, eqb→eq, lt→ltb}
use lib.ListN.{length, get_or, drop_of_length-le}
use lib.Ieee.Fits.{and_i, and_l, and_r}
use borrow.Author.Tests.{le-leb, eq-eqb}
use Rattle.laws.proofs.Tests.{by_test, by_choice, same_test}
use Rattle.laws.proofs.Convex.{Upward, Downward, one_range, narrower_range, past_passes, past_greatest}
use Rattle.laws.proofs.Range.{past_le}
use Rattle.paths.specs.declared.passes.Strictness.{Strictness}
use Rattle.paths.specs.declared.passes.Strictness.TheVariants.{Strict, Relaxed}
use Rattle.paths.specs.Inner.Order.{Increasing}
use Rattle.paths.specs.Anchors.{Anchor, select, held_in}
use Rattle.paths.specs.Theory.LookAhead.{ahead}
use Rattle.limits.specs.Common.{shortest_unit, longest_unit}
use Rattle.paths.specs.Units.{fits_unit, admits_unit}
use Rattle.paths.specs.Inner.Ranges.{goes_to, low_origin, origins_end, in_range, Origins, before, last_of}
use Rattle.paths.proofs.Frames.{increasing_le}
use Rattle.paths.proofs.Select.{select_same, select_select}
use Rattle.paths.proofs.Anchors.{held_in_split}
use Rattle.paths.proofs.Rising.{Rising, no_more, and_then, rising_select}

-- ---- the anchors that a unit holds, of those before its end

held_before : (anchors : List Anchor) (from to : ℕ) → held_in anchors from to ≡ ahead (before anchors to) from
unfolding held_in ahead before
held_before anchors from to =
    select_same (λ anchor. leb from anchor.frame && ltb anchor.frame to)
    (λ anchor. ltb anchor.frame to && leb from anchor.frame)
    (λ anchor. and_comm (leb from anchor.frame) (ltb anchor.frame to)) anchors
    ∙ sym (select_select (λ anchor. ltb anchor.frame to) (λ anchor. leb from anchor.frame) anchors)

-- the only one at or after a frame is the last of all
only_ahead : (from : ℕ) {low : ℕ} {anchors : List Anchor} → Rising low anchors → length (ahead anchors from) ≡ 1
    → ahead anchors from ≡ last_of anchors
unfolding ahead select last_of
only_ahead from no_more one = absurd (omega arith)
only_ahead from (and_then {anchor = anchor} h no_more) one =
    by_choice (λ (l : List Anchor). length l ≡ 1 → l ≡ anchor ∷ []) (leb from anchor.frame) (λ t _. refl)
    (λ t none. absurd (omega arith)) one
only_ahead from (and_then {anchor = first} h (and_then {anchor = second} {anchors = anchors} k r)) one =
    by_choice (λ (l : List Anchor). length l ≡ 1 → l ≡ last_of (second ∷ anchors)) (leb from first.frame)
    (λ t _. let starts = leb→le from first.frame t in
    absurd (omega (arith, rw (le-leb from first.frame starts, le-leb from second.frame (omega arith)) at one)))
    (λ t. only_ahead from (and_then k r)) one

-- where a unit holds one anchor, it is the last before the unit's end
pub held_last : {anchors : List Anchor} (from to : ℕ) → Rising 0 anchors → length (held_in anchors from to) ≡ 1
    → held_in anchors from to ≡ last_of (before anchors to)
unfolding before
held_last {anchors} from to rising one =
    let e = held_before anchors from to in
    e ∙ only_ahead from (rising_select (λ anchor. ltb anchor.frame to) rising) (ap length (sym e) ∙ one)

-- ---- what an admitted unit has

-- exactly one is at most one and at least one
one_exactly : (n : ℕ) → eqb n 1 ≡ (leb n 1 && leb 1 n)
one_exactly n =
    same_test (eqb n 1) (leb n 1 && leb 1 n)
    (λ t. let e = eqb→eq n 1 t in and_i (leb n 1) (leb 1 n) (le→leb n 1 (omega arith)) (le→leb 1 n (omega arith)))
    (λ t. let most = leb→le n 1 (and_l (leb n 1) (leb 1 n) t) in
    let least = leb→le 1 n (and_r (leb n 1) (leb 1 n) t) in
    let e : n ≡ 1 = omega arith in
    subst T (sym (eq-eqb n 1 e)) tt)

-- a strict unit is a relaxed one that holds an anchor
strict_is : (anchors : List Anchor) (from to : ℕ)
    → admits_unit Strict anchors from to ≡ (admits_unit Relaxed anchors from to && leb 1 (length (held_in anchors from to)))
unfolding admits_unit
strict_is anchors from to =
    let fits : Bool = fits_unit (to - from) in
    let held : ℕ = length (held_in anchors from to) in
    ap (λ (b : Bool). fits && b) (one_exactly held) ∙ sym (and_assoc fits (leb held 1) (leb 1 held))

module _ (anchors : List Anchor) (bounds : List ℕ) (i j : ℕ) where
  pub strict_relaxed : T (goes_to Strict anchors bounds j i) → T (goes_to Relaxed anchors bounds j i)
  strict_relaxed t =
      and_l (goes_to Relaxed anchors bounds j i) (leb 1 (length (held_in anchors (get_or bounds i 0) (get_or bounds j 0))))
      (subst T (strict_is anchors (get_or bounds i 0) (get_or bounds j 0)) t)

  pub any_relaxed : (strictness : Strictness) → T (goes_to strictness anchors bounds j i) → T (goes_to Relaxed anchors bounds j i)
  any_relaxed Strict t = strict_relaxed t
  any_relaxed Relaxed t = t

  pub fits_in_range : (strictness : Strictness) → T (goes_to strictness anchors bounds j i)
      → (shortest_unit ≤ get_or bounds j 0 - get_or bounds i 0) × (get_or bounds j 0 - get_or bounds i 0 ≤ longest_unit)
  unfolding admits_unit
  fits_in_range strictness t =
      let frames : ℕ = get_or bounds j 0 - get_or bounds i 0 in
      let fits : T (fits_unit frames) = and_l (fits_unit frames) _ t in (
        leb→le shortest_unit frames (and_l (leb shortest_unit frames) (leb frames longest_unit) fits),
        leb→le frames longest_unit (and_r (leb shortest_unit frames) (leb frames longest_unit) fits),
      )

-- ---- the origins of the units that end at one boundary

module _ (anchors : List Anchor) (bounds : List ℕ) (j : ℕ) where
  frames : ℕ → ℕ
  frames i = get_or bounds j 0 - get_or bounds i 0

  held : ℕ → ℕ
  held i = length (held_in anchors (get_or bounds i 0) (get_or bounds j 0))

  not_long : ℕ → Bool
  not_long i = leb (frames i) longest_unit && leb (held i) 1

  not_short : ℕ → Bool
  not_short i = leb shortest_unit (frames i)

  some_held : ℕ → Bool
  some_held i = leb 1 (held i)

  relaxed_joins : (i : ℕ) → goes_to Relaxed anchors bounds j i ≡ (not_long i && not_short i)
  unfolding admits_unit not_long not_short frames held
  relaxed_joins i =
      let a : Bool = leb shortest_unit (frames i) in
      let b : Bool = leb (frames i) longest_unit in
      let c : Bool = leb (held i) 1 in
      and_assoc a b c ∙ and_comm a (b && c)

  module _ (increasing : Increasing bounds) (within : j < length bounds) where
    -- a later origin
    fewer_frames : (i k : ℕ) → i ≤ k → k < j → frames k ≤ frames i
    unfolding frames
    fewer_frames i k h l = omega (arith, increasing_le bounds increasing i k h (omega arith))

    fewer_held : (i k : ℕ) → i ≤ k → k < j → held k ≤ held i
    unfolding held
    fewer_held i k h l =
        let up_to_lem = increasing_le bounds increasing i k h (omega arith) in
        let from = increasing_le bounds increasing k j (omega arith) within in
        omega (arith, held_in_split anchors (get_or bounds i 0) (get_or bounds k 0) (get_or bounds j 0) up_to_lem from)

    not_long_upward : Upward j not_long
    unfolding not_long
    not_long_upward i k h l t =
        let long = leb→le (frames i) longest_unit (and_l (leb (frames i) longest_unit) (leb (held i) 1) t) in
        let many = leb→le (held i) 1 (and_r (leb (frames i) longest_unit) (leb (held i) 1) t) in
        and_i (leb (frames k) longest_unit) (leb (held k) 1)
        (le→leb (frames k) longest_unit (omega (arith, fewer_frames i k h l))) (le→leb (held k) 1 (omega (arith, fewer_held i k h l)))

    not_short_downward : Downward j not_short
    unfolding not_short
    not_short_downward i k h l t =
        let short = leb→le shortest_unit (frames k) t in
        le→leb shortest_unit (frames i) (omega (arith, fewer_frames i k h l))

    some_held_downward : Downward j some_held
    unfolding some_held
    some_held_downward i k h l t =
        let some = leb→le 1 (held k) t in
        le→leb 1 (held i) (omega (arith, fewer_held i k h l))

    ranged : (strictness : Strictness) (i : ℕ) → i < j
        → goes_to strictness anchors bounds j i ≡ in_range (low_origin anchors bounds j) (origins_end strictness anchors bounds j) i
    unfolding low_origin origins_end some_held held
    ranged Relaxed =
        one_range j not_long not_short not_long_upward not_short_downward (goes_to Relaxed anchors bounds j) (λ i _. relaxed_joins i)
    ranged Strict =
        narrower_range j not_long not_short not_long_upward not_short_downward (goes_to Relaxed anchors bounds j) (λ i _. relaxed_joins i)
        some_held some_held_downward (goes_to Strict anchors bounds j) (λ i _. strict_is anchors (get_or bounds i 0) (get_or bounds j 0))

pub origins : (anchors : List Anchor) (bounds : List ℕ) → Increasing bounds → (strictness : Strictness)
    → Origins (λ i j. goes_to strictness anchors bounds j i) (length bounds)
    (low_origin anchors bounds) (origins_end strictness anchors bounds)
unfolding origins_end
origins anchors bounds increasing strictness = record {
  ranged = λ i j h within. ranged anchors bounds j increasing within strictness i h;
  earlier = λ j within. past_le (goes_to strictness anchors bounds j) j;
}

-- ---- the anchor that a unit holds

-- those that hold an anchor end no later than all that a strictness asks for
pub strict_inside : (anchors : List Anchor) (bounds : List ℕ) (strictness : Strictness) (j : ℕ)
    → origins_end Strict anchors bounds j ≤ origins_end strictness anchors bounds j
unfolding origins_end
strict_inside anchors bounds Strict j = le_refl (origins_end Strict anchors bounds j)
strict_inside anchors bounds Relaxed j =
    by_order 0 strict
    (λ some. let last =
    past_greatest (goes_to Relaxed anchors bounds j) j (strict - 1) (omega (arith, past_le (goes_to Strict anchors bounds j) j))
    (strict_relaxed anchors bounds (strict - 1) j (past_passes (goes_to Strict anchors bounds j) j some)) in omega arith)
    (λ none. omega arith)
  where
    strict : ℕ
    strict = past_last (goes_to Strict anchors bounds j) j

module _ (anchors : List Anchor) (bounds : List ℕ) (rising : Rising 0 anchors) (increasing : Increasing bounds) where
  -- the last before its end up to where strict units start, and none from there on
  -- of those that a relaxed pass admits, one from before the end of the strict ones holds an anchor
  pub one_in_range : (i j : ℕ) → i < j → j < length bounds → T (goes_to Relaxed anchors bounds j i) → i < origins_end Strict anchors bounds j
      → length (held_in anchors (get_or bounds i 0) (get_or bounds j 0)) ≡ 1
  unfolding admits_unit
  one_in_range i j h within relaxed below =
      let all = subst T ((origins anchors bounds increasing Relaxed).ranged i j h within) relaxed in
      let low = and_l (leb (low_origin anchors bounds j) i) (ltb i (origins_end Relaxed anchors bounds j)) all in
      let strict : T (goes_to Strict anchors bounds j i) =
      subst T (sym ((origins anchors bounds increasing Strict).ranged i j h within))
      (and_i (leb (low_origin anchors bounds j) i) (ltb i (origins_end Strict anchors bounds j)) low
      (lt→ltb i (origins_end Strict anchors bounds j) below)) in
      eqb→eq (length (held_in anchors (get_or bounds i 0) (get_or bounds j 0))) 1 (and_r (fits_unit (get_or bounds j 0 - get_or bounds i 0)) _ strict)

  pub held_in_range : (i j : ℕ) → i < j → j < length bounds → T (goes_to Relaxed anchors bounds j i)
      → held_in anchors (get_or bounds i 0) (get_or bounds j 0)
      ≡ cond (ltb i (origins_end Strict anchors bounds j)) (last_of (before anchors (get_or bounds j 0))) []
  unfolding admits_unit
  held_in_range i j h within relaxed =
      by_choice (λ (l : List Anchor). in_unit ≡ l) (ltb i end) (λ t. held_last from to rising (one t))
      (λ t. drop_of_length-le in_unit {i = 0} (none t))
    where
      from : ℕ
      from = get_or bounds i 0

      to : ℕ
      to = get_or bounds j 0

      in_unit : List Anchor
      in_unit = held_in anchors from to

      low : ℕ
      low = low_origin anchors bounds j

      end : ℕ
      end = origins_end Strict anchors bounds j

      origin : (strictness : Strictness) → goes_to strictness anchors bounds j i ≡ in_range low (origins_end strictness anchors bounds j) i
      origin strictness = (origins anchors bounds increasing strictness).ranged i j h within

      one : T (ltb i end) → length in_unit ≡ 1
      one t =
          let lowest = and_l (leb low i) (ltb i (origins_end Relaxed anchors bounds j)) (subst T (origin Relaxed) relaxed) in
          let strict = subst T (sym (origin Strict)) (and_i (leb low i) (ltb i end) lowest t) in
          eqb→eq (length in_unit) 1 (and_r (fits_unit (to - from)) (eqb (length in_unit) 1) strict)

      none : T (not (ltb i end)) → length in_unit ≤ 0
      none t =
          by_test (leb 1 (length in_unit))
          (λ some. let both = and_i (goes_to Relaxed anchors bounds j i) (leb 1 (length in_unit)) relaxed some in
          let strict = subst T (origin Strict) (subst T (sym (strict_is anchors from to)) both) in
          absurd (T_not (ltb i end) t (and_r (leb low i) (ltb i end) strict)))
          (λ fewer. omega (arith, nleb→lt 1 (length in_unit) fewer))

-- ---- boundaries 0, 3 and 6 with one anchor, at frame 4: the unit from 0 to 6 is the only one that ends at 6

pub example_end : origins_end Strict (record { frame = 4; row = 0 } ∷ []) (0 ∷ 3 ∷ 6 ∷ []) 2 ≡ 1
unfolding origins_end admits_unit
example_end = refl

pub example_low : low_origin (record { frame = 4; row = 0 } ∷ []) (0 ∷ 3 ∷ 6 ∷ []) 2 ≡ 0
unfolding low_origin admits_unit
example_low = refl
