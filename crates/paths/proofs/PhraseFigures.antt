-- The figures of a stage's problem keep to whole-number bounds where those of the phrase do. Assumes nothing.
use mathlib.Core.List.{List}
use Prim.Native.Nat.{ℕ, suc, ◌+◌, ◌-◌, ◌*◌, ◌^◌, ◌≤◌}
use native.Mathlib.Nat.{le_trans, mul-le-mul_left, mul-le-mul_right}
use native.Mathlib.Omega.{arith}
use lib.Dec.{T, leb, leb→le}
use lib.ListN.{length, get_or}
use lib.Ieee.{Float, binary64, prec, mul}
use lib.Ieee.Fits.{and_l, and_r}
use Rattle.ieee.specs.Inner.Value.{Within}
use Rattle.ieee.proofs.Magnitude.{add_within, sub_within, mul_within, neg_within, weaken}
use Rattle.laws.specs.Inner.Each.{Each, each_none, each_more}
use Rattle.phrase.specs.Phrase.{Phrase, Stage}
use Rattle.phrase.specs.Filler.{counted}
use Rattle.paths.specs.declared.passes.Strictness.{Strictness}
use Rattle.paths.specs.Anchors.{Anchor, kept, held_in}
use Rattle.limits.specs.Common.{shortest_unit, longest_unit}
use Rattle.paths.specs.Units.{fits_unit, may_hold, admits_unit}
use Rattle.paths.specs.StageProblem.{cost, score_of, unit_value_of, boundary, problem_of}
use Rattle.paths.specs.Theory.Bounded.{Figures, Ranges, filler_bound, step_bound, Room, Bounded}
use Rattle.paths.proofs.Frames.{speech_in_le}
use Rattle.paths.proofs.Anchors.{kept_in_le, held_in_le, InRows, held_rows}

-- a figure times a count
counted_within : {x : Float} {a n : ℕ} (m : ℕ) → Within binary64 x a → n ≤ m → m ≤ 2 ^ prec binary64 → a * m ≤ 2 ^ prec binary64
    → Within binary64 (mul binary64 x (counted n)) (a * m)
counted_within {a = a} {n = n} m p h k room =
    weaken (a * m) (mul-le-mul_left a h) (mul_within p n (le_trans (mul-le-mul_left a h) room) (le_trans h k))

-- ---- what a unit is made of

module _ {most : Ranges} {phrase : Phrase} {stage : Stage} {columns : List ℕ} (bounded : Bounded most phrase stage columns) where
  score_in : (unit : ℕ) {anchors : List Anchor} → Each (InRows stage.first_row (stage.first_row + length stage.anchors)) anchors
      → Within binary64 (score_of phrase (get_or columns unit 0) anchors) most.score
  unfolding score_of
  score_in unit each_none = bounded.unvoiced
  score_in unit (each_more {x = anchor} (low, high) more) = bounded.scores anchor.row unit low high

  pub score_within : (unit from to : ℕ)
      → Within binary64 (score_of phrase (get_or columns unit 0) (held_in (kept phrase stage) from to)) most.score
  score_within unit from to =
      score_in unit
      (held_rows phrase.mask stage.first_row (stage.first_row + length stage.anchors) stage.anchors from to (omega arith))

  pub duration_within : (strictness : Strictness) (from to : ℕ) → T (admits_unit strictness (kept phrase stage) from to)
      → Within binary64 (stage.duration (to - from)) most.duration
  unfolding admits_unit
  duration_within strictness from to ok =
      let long = and_l (fits_unit (to - from)) (may_hold strictness (length (held_in (kept phrase stage) from to))) ok in
      bounded.durations (to - from)
      (leb→le shortest_unit (to - from) (and_l (leb shortest_unit (to - from)) (leb (to - from) longest_unit) long))
      (leb→le (to - from) longest_unit (and_r (leb shortest_unit (to - from)) (leb (to - from) longest_unit) long))

  -- what filler counts
  pub inserted_le : (from to : ℕ) → length (held_in (kept phrase phrase.nuclei) from to) ≤ most.nuclei
  inserted_le from to =
      le_trans (held_in_le (kept phrase phrase.nuclei) from to)
      (le_trans (kept_in_le phrase.mask phrase.nuclei.first_row phrase.nuclei.anchors) bounded.nuclei)

-- ---- the figures of a problem

module _ {most : Ranges} {phrase : Phrase} {stage : Stage} {columns : List ℕ} (room : Room most)
    (bounded : Bounded most phrase stage columns) where
  cost_within : (from to : ℕ) → Within binary64 (cost phrase from to) (filler_bound most)
  unfolding cost
  cost_within from to =
      sub_within
      (counted_within most.frames bounded.per_frame (le_trans (speech_in_le phrase.mask from to) bounded.frames) room.frames
      (omega (arith, room.sums)))
      (counted_within most.nuclei bounded.insertion (inserted_le bounded from to) room.nuclei (omega (arith, room.sums)))
      (omega (arith, room.sums))

  unit_within : (strictness : Strictness) (unit from to : ℕ) → 1 ≤ most.boundaries → T (admits_unit strictness (kept phrase stage) from to)
      → Within binary64 (unit_value_of phrase stage (get_or columns unit 0) from to) (most.score + most.duration)
  unfolding unit_value_of
  unit_within strictness unit from to some ok =
      add_within (score_within bounded unit from to) (duration_within bounded strictness from to ok)
      (omega (arith, room.sums, mul-le-mul_right (step_bound most) some))

  pub phrase_figures : (strictness : Strictness) → Figures (problem_of phrase stage strictness columns) (filler_bound most) (step_bound most)
  phrase_figures strictness = record {
    starts = λ i h. neg_within (cost_within 0 (boundary stage i));
    gaps = λ i h. weaken (step_bound most) (omega arith) (cost_within (boundary stage i) (boundary stage (suc i)));
    units =
        λ unit i j h k ok. weaken (step_bound most) (omega arith)
        (unit_within strictness unit (boundary stage i) (boundary stage j) (omega (arith, bounded.boundaries)) ok);
    stops = λ i h. cost_within (boundary stage i) (length phrase.mask);
    room = omega (arith, room.sums, mul-le-mul_right (step_bound most) bounded.boundaries);
  }
