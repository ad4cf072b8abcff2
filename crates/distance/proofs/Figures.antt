-- The figures of a stage's problem are near the exact ones, and its stretches of filler do not overlap: the frames that they count are at
-- most as many as the mask has, and their nuclei as many as there are. Assumes nothing.
use Prim.Native.Nat.{ℕ, suc, ◌+◌, ◌*◌, ◌≤◌}
use mathlib.Core.List.{List}
use mathlib.Core.Path.{◌≡◌, ap}
use native.Mathlib.Nat.{le_trans, le_of_lt, le_of_eq, lt_of_le_of_lt, mul-le-mul_left}
use native.Mathlib.Omega.{arith}
use lib.Dec.{T}
use lib.ListN.{length, get_or}
use Rattle.exact.specs.Theory.Close.{Errs, Close}
use Rattle.exact.proofs.Errors.{scaled_close, neg_close, loosen, add_close, sub_close, times_close}
use Rattle.phrase.specs.Phrase.{Phrase, Stage}
use Rattle.paths.specs.declared.passes.Strictness.{Strictness}
use Rattle.paths.specs.Inner.Order.{Increasing}
use Rattle.paths.specs.Frames.{speech_in}
use Rattle.paths.specs.Anchors.{kept, held_in}
use Rattle.paths.specs.Units.{admits_unit}
use Rattle.paths.specs.StageProblem.{cost, unit_value_of, boundary, problem_of}
use Rattle.paths.specs.Theory.Bounded.{Ranges, filler_bound, Bounded}
use Rattle.paths.proofs.Frames.{increasing_le, speech_in_le, speech_in_split}
use Rattle.paths.proofs.Anchors.{held_in_more, held_in_split}
use Rattle.paths.proofs.PhraseFigures.{score_within, duration_within, inserted_le}
use Rattle.distance.specs.ExactStage.{exact_cost, exact_unit, exact_of}
use Rattle.distance.specs.Theory.Growth.{Growth, grain_of, figure_grains, unit_bound, Sharp, Stretches, CloseFigures}

-- ---- stretches of filler

abbrev nuclei_in : Phrase → ℕ → ℕ → ℕ
nuclei_in phrase from to = length (held_in (kept phrase phrase.nuclei) from to)

-- what the filler of a stretch costs at most
abbrev stretch : Ranges → Phrase → ℕ → ℕ → ℕ
stretch most phrase from to = most.per_frame * speech_in phrase.mask from to + most.insertion * nuclei_in phrase from to

-- one after the other
stretch_split : (most : Ranges) (phrase : Phrase) (from mid to : ℕ) → from ≤ mid → mid ≤ to
    → stretch most phrase from mid + stretch most phrase mid to ≡ stretch most phrase from to
stretch_split most phrase from mid to h k =
    let speech = speech_in_split phrase.mask from mid to (omega arith) (omega arith) in
    let held = held_in_split (kept phrase phrase.nuclei) from mid to h k in
    omega (arith, ap (λ (n : ℕ). most.per_frame * n) speech, ap (λ (n : ℕ). most.insertion * n) held)

module _ {most : Ranges} {phrase : Phrase} {stage : Stage} {columns : List ℕ} (bounded : Bounded most phrase stage columns) where
  stretch_le : (from to : ℕ) → stretch most phrase from to ≤ filler_bound most
  stretch_le from to =
      let speech = mul-le-mul_left most.per_frame (le_trans (speech_in_le phrase.mask from to) bounded.frames) in
      let held = mul-le-mul_left most.insertion (inserted_le bounded from to) in
      omega arith

  -- up to a frame and from it to the mask's end, which it may be beyond
  stretch_whole : (frame : ℕ) → stretch most phrase 0 frame + stretch most phrase frame (length phrase.mask) ≤ filler_bound most
  stretch_whole frame =
      let end = length phrase.mask in
      let anchors = kept phrase phrase.nuclei in
      let speech = speech_in_split phrase.mask 0 frame end (omega arith) (omega arith) in
      let further = held_in_more anchors frame {to = end} {further = frame + end} (omega arith) in
      let held = held_in_split anchors 0 frame (frame + end) (omega arith) (omega arith) in
      let frames = mul-le-mul_left most.per_frame (le_trans (speech_in_le phrase.mask 0 end) bounded.frames) in
      let nuclei = mul-le-mul_left most.insertion (inserted_le bounded 0 (frame + end)) in
      omega (
        arith,
        frames,
        nuclei,
        ap (λ (n : ℕ). most.per_frame * n) speech,
        ap (λ (n : ℕ). most.insertion * n) held,
        mul-le-mul_left most.insertion further,
      )

-- ---- figures

module _ {most : Ranges} {g : Growth} {digits : ℕ} (sharp : Sharp most g digits)
    {phrase : Phrase} {stage : Stage} {columns : List ℕ} (bounded : Bounded most phrase stage columns) where
  -- an operation on figures errs by a grain
  one_grain : Errs (grain_of g) g.figures 1
  one_grain = record { digits = omega (arith, sharp.held); place = omega arith }

  cost_close : (from to : ℕ) → Close (grain_of g) (cost phrase from to) (exact_cost phrase from to) (stretch most phrase from to) figure_grains
  unfolding cost exact_cost
  cost_close from to =
      let small = lt_of_le_of_lt (stretch_le bounded from to) sharp.filler in
      sub_close one_grain
      (times_close one_grain bounded.per_frame (speech_in phrase.mask from to)
      (le_trans (speech_in_le phrase.mask from to) (le_trans bounded.frames sharp.frames)) (omega (arith, small)))
      (times_close one_grain bounded.insertion (nuclei_in phrase from to)
      (le_trans (inserted_le bounded from to) sharp.nuclei) (omega (arith, small)))
      small

  unit_close : (strictness : Strictness) (unit from to : ℕ) → T (admits_unit strictness (kept phrase stage) from to)
      → Close (grain_of g) (unit_value_of phrase stage (get_or columns unit 0) from to) (exact_unit phrase stage (get_or columns unit 0) from to)
      (unit_bound most) figure_grains
  unfolding unit_value_of exact_unit
  unit_close strictness unit from to ok =
      loosen (unit_bound most) figure_grains (omega arith) (omega arith)
      (add_close one_grain (scaled_close (score_within bounded unit from to)) (scaled_close (duration_within bounded strictness from to ok))
      sharp.unit)

  -- ---- those of a problem

  abbrev stretches : Stretches
  stretches = record {
    before = λ i. stretch most phrase 0 (boundary stage i);
    gap = λ i. stretch most phrase (boundary stage i) (boundary stage (suc i));
    after = λ i. stretch most phrase (boundary stage i) (length phrase.mask);
  }

  pub figures_close : (strictness : Strictness) → Increasing stage.boundaries
      → CloseFigures (problem_of phrase stage strictness columns) (exact_of phrase stage columns) (grain_of g) (filler_bound most) (unit_bound most)
      stretches
  figures_close strictness increasing = record {
    starts = λ i h. neg_close (cost_close 0 (boundary stage i));
    gaps = λ i h. cost_close (boundary stage i) (boundary stage (suc i));
    units = λ n i j h k ok. unit_close strictness n (boundary stage i) (boundary stage j) ok;
    stops = λ i h. cost_close (boundary stage i) (length phrase.mask);
    onward = λ i h. le_of_eq (stretch_split most phrase 0 (boundary stage i) (boundary stage (suc i)) (omega arith) (le_of_lt (increasing i h)));
    rising = λ i j h k.
        let split = stretch_split most phrase 0 (boundary stage i) (boundary stage j) (omega arith)
        (increasing_le stage.boundaries increasing i j (le_of_lt h) k) in
        omega (arith, split);
    whole = λ i h. stretch_whole bounded (boundary stage i);
  }
