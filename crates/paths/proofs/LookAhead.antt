-- The look ahead "skips only what is barred": what the first two anchors at or after a boundary say of the units that start there,
-- and that a unit barred for its length, or for a second anchor, stays barred however much further it goes. Assumes nothing.
use mathlib.Core.Logic.{◌⊎◌, inl, inr}
use mathlib.Core.Path.{◌≡◌, refl, sym, ap, ◌∙◌}
use mathlib.Core.Bool.{Bool, false, ◌&&◌, and-false}
use mathlib.Core.List.{List, [], ◌∷◌, tail}
use Prim.Native.Nat.{ℕ, ◌-◌, ◌≤◌, ◌<◌}
use native.Mathlib.Nat.{le_trans, le_refl, not-le_of_lt}
use native.Mathlib.Omega.{arith}
use lib.Dec.{leb, ltb, leb→le, nleb→lt}
use lib.ListN.{length}
use borrow.Author.Tests.{le-leb, lt-leb, lt-ltb, le-ltb, ne_eqb}
use Rattle.phrase.specs.Phrase.{Phrase, Stage}
use Rattle.paths.specs.declared.passes.Strictness.{Strictness}
use Rattle.paths.specs.declared.passes.Strictness.TheVariants.{Strict, Relaxed}
use Rattle.paths.specs.Inner.Order.{Increasing}
use Rattle.paths.specs.Anchors.{Anchor, select, kept, held_in, row_or}
use Rattle.limits.specs.Common.{longest_unit}
use Rattle.paths.specs.Units.{fits_unit, may_hold, admits_unit}
use Rattle.paths.specs.StageProblem.{boundary, problem_of}
use Rattle.paths.specs.Inner.Ranges.{before}
use Rattle.paths.specs.Theory.LookAhead.{ahead, frame_or, first_ahead, second_ahead, row_ahead, taken_in}
use Rattle.laws.proofs.Tests.{by_test}
use Rattle.paths.proofs.Frames.{increasing_le}
use Rattle.paths.proofs.Select.{select_select}
use Rattle.paths.proofs.Anchors.{held_in_more}
use Rattle.paths.proofs.Rising.{Rising, no_more, and_then, rising_select}

-- ---- the anchors before a frame, of those ahead

held_ahead : (anchors : List Anchor) (from to : ℕ) → held_in anchors from to ≡ before (ahead anchors from) to
unfolding held_in ahead before
held_ahead anchors from to = sym (select_select (λ anchor. leb from anchor.frame) (λ anchor. ltb anchor.frame to) anchors)

none_from : (to : ℕ) {low : ℕ} {anchors : List Anchor} → Rising low anchors → to ≤ low → before anchors to ≡ []
unfolding before select
none_from to no_more h = refl
none_from to (and_then {low = low} {anchor = anchor} {anchors = anchors} g r) h =
    rw (le-ltb anchor.frame to (le_trans h g)) (none_from to r (omega arith))

none_before : (beyond to : ℕ) {low : ℕ} {anchors : List Anchor} → Rising low anchors → to ≤ frame_or beyond anchors → before anchors to ≡ []
none_before beyond to no_more h = none_from to {low = to} no_more (le_refl to)
none_before beyond to (and_then {anchor = anchor} g r) h = none_from to (and_then (le_refl anchor.frame) r) h

-- the first stays, and what is before the end of the others
first_before : (to : ℕ) (anchor : Anchor) (anchors : List Anchor) → anchor.frame < to
    → before (anchor ∷ anchors) to ≡ anchor ∷ before anchors to
unfolding before select
first_before to anchor anchors h = rw (lt-ltb anchor.frame to h)

one_before : (beyond row to : ℕ) {low : ℕ} {anchors : List Anchor} → Rising low anchors → to ≤ beyond → frame_or beyond anchors < to
    → to ≤ frame_or beyond (tail anchors) → before anchors to ≡ record { frame = frame_or beyond anchors; row = row_or row anchors } ∷ []
one_before beyond row to no_more most past h = absurd (not-le_of_lt past most)
one_before beyond row to (and_then {anchor = anchor} {anchors = anchors} g r) most past h =
    first_before to anchor anchors past ∙ ap (λ (rest : List Anchor). anchor ∷ rest) (none_before beyond to r h)

more_before : (beyond to : ℕ) {low : ℕ} {anchors : List Anchor} → Rising low anchors → to ≤ beyond → frame_or beyond (tail anchors) < to
    → 2 ≤ length (before anchors to)
more_before beyond to no_more most past = absurd (not-le_of_lt past most)
more_before beyond to (and_then g no_more) most past = absurd (not-le_of_lt past most)
more_before beyond to (and_then {anchor = first} g (and_then {anchor = second} {anchors = anchors} k r)) most past =
    rw (first_before to first (second ∷ anchors) (omega arith), first_before to second anchors past) (omega arith)

may_not : (strictness : Strictness) (n : ℕ) → 2 ≤ n → may_hold strictness n ≡ false
may_not Strict n h = ne_eqb n 1 (omega arith)
may_not Relaxed n h = lt-leb n 1 h

-- ---- the laws of the two anchors ahead

module _ {anchors : List Anchor} (rising : Rising 0 anchors) (beyond from to : ℕ) (most : to ≤ beyond) where
  rising_ahead : Rising 0 (ahead anchors from)
  unfolding ahead
  rising_ahead = rising_select (λ anchor. leb from anchor.frame) rising

  pub holds_none : to ≤ first_ahead beyond anchors from → held_in anchors from to ≡ []
  unfolding first_ahead
  holds_none h = held_ahead anchors from to ∙ none_before beyond to rising_ahead h

  pub holds_one : (row : ℕ) → first_ahead beyond anchors from < to → to ≤ second_ahead beyond anchors from
      → held_in anchors from to ≡ record { frame = first_ahead beyond anchors from; row = row_ahead row anchors from } ∷ []
  unfolding first_ahead second_ahead row_ahead
  holds_one row past h = held_ahead anchors from to ∙ one_before beyond row to rising_ahead most past h

  pub holds_more : second_ahead beyond anchors from < to → 2 ≤ length (held_in anchors from to)
  unfolding second_ahead
  holds_more past = rw (held_ahead anchors from to) (more_before beyond to rising_ahead most past)

  may_hold_ahead : (strictness : Strictness)
      → may_hold strictness (length (held_in anchors from to))
      ≡ may_hold strictness (taken_in (first_ahead beyond anchors from) (second_ahead beyond anchors from) to)
  may_hold_ahead strictness =
      let first = first_ahead beyond anchors from in
      let second = second_ahead beyond anchors from in
      by_test (leb to first)
      (λ t. let h = leb→le to first t in rw (le-leb to first h) (ap (λ (l : List Anchor). may_hold strictness (length l)) (holds_none h)))
      (λ t. let past = nleb→lt to first t in rw (lt-leb to first past) (by_test (leb to second)
      (λ s. let h = leb→le to second s in
      rw (le-leb to second h) (ap (λ (l : List Anchor). may_hold strictness (length l)) (holds_one 0 past h)))
      (λ s. let beyond-two = nleb→lt to second s in
      rw (lt-leb to second beyond-two) (may_not strictness _ (holds_more beyond-two) ∙ sym (may_not strictness 2 (le_refl 2))))))

  -- the test of a unit, by the two anchors ahead
  pub admits_ahead : (strictness : Strictness)
      → admits_unit strictness anchors from to
      ≡ (fits_unit (to - from) && may_hold strictness (taken_in (first_ahead beyond anchors from) (second_ahead beyond anchors from) to))
  unfolding admits_unit
  admits_ahead strictness = ap (λ (b : Bool). fits_unit (to - from) && b) (may_hold_ahead strictness)

-- ---- "The look ahead over later boundaries stops for good at the first that is over 80 frames away or takes in a second anchor."

-- a unit that is too long, or holds two anchors, goes on being so
pub barred_beyond : (strictness : Strictness) (anchors : List Anchor) (from : ℕ) {to further : ℕ} → to ≤ further
    → (longest_unit < to - from) ⊎ (2 ≤ length (held_in anchors from to)) → admits_unit strictness anchors from further ≡ false
unfolding admits_unit
barred_beyond strictness anchors from {to} {further} h (inl long) = rw (lt-leb (further - from) longest_unit (omega arith), and-false)
barred_beyond strictness anchors from {to} {further} h (inr two) =
    ap (λ (b : Bool). fits_unit (further - from) && b) (may_not strictness _ (le_trans two (held_in_more anchors from h)))
    ∙ and-false (fits_unit (further - from))

-- over boundaries: once the unit to boundary j is so, no later boundary is a target
pub barred_later : (phrase : Phrase) (stage : Stage) (strictness : Strictness) (columns : List ℕ) → Increasing stage.boundaries
    → (i j later : ℕ) → j ≤ later → later < length stage.boundaries
    → (longest_unit < boundary stage j - boundary stage i) ⊎ (2 ≤ length (held_in (kept phrase stage) (boundary stage i) (boundary stage j)))
    → (problem_of phrase stage strictness columns).unit_ok i later ≡ false
barred_later phrase stage strictness columns increasing i j later h k =
    barred_beyond strictness (kept phrase stage) (boundary stage i) (increasing_le stage.boundaries increasing j later h k)
