-- The exact figures of a phrase's stage (document 02, Ask 4): "the exact sum of the same lent figures". What is counted, and which score and
-- duration a unit takes, is as for the f64 sum (paths/specs/StageProblem.antt).
use Rattle.std.specs.Prelude.{ℕ, suc, ◌-◌, List, ℤ, pos, neg_ℤ, ◌+ℤ◌, ◌-ℤ◌, ◌*ℤ◌, length, get_or}
use Rattle.exact.specs.Scaled.{scaled}
use Rattle.phrase.specs.Phrase.{Phrase, Stage}
use Rattle.paths.specs.Frames.{speech_in}
use Rattle.paths.specs.Anchors.{kept, held_in}
use Rattle.paths.specs.StageProblem.{score_of, boundary}
use Rattle.distance.specs.ExactSum.{ExactFigures}

-- "a filler cost is exact there, products included": per_frame × speech count − insertion_llr × nuclei count
unfoldable pub exact_cost : Phrase → ℕ → ℕ → ℤ
unfolding scaled speech_in held_in
exact_cost phrase from to =
    let speech = speech_in phrase.mask from to in
    let inserted = length (held_in (kept phrase phrase.nuclei) from to) in
    scaled phrase.costs.per_frame *ℤ pos speech -ℤ scaled phrase.costs.insertion_llr *ℤ pos inserted

-- score + duration
unfoldable pub exact_unit : Phrase → Stage → ℕ → ℕ → ℕ → ℤ
unfolding scaled score_of held_in
exact_unit phrase stage column from to =
    scaled (score_of phrase column (held_in (kept phrase stage) from to)) +ℤ scaled (stage.duration (to - from))

-- as document 01 has it: the start negates its cost, a gap and the end subtract theirs, "unit i takes the candidate's i-th column"
abbrev pub exact_of : Phrase → Stage → List ℕ → ExactFigures
exact_of phrase stage columns = record {
  start = λ i. neg_ℤ (exact_cost phrase 0 (boundary stage i));
  gap_cost = λ i. exact_cost phrase (boundary stage i) (boundary stage (suc i));
  unit_value = λ unit i j. exact_unit phrase stage (get_or columns unit 0) (boundary stage i) (boundary stage j);
  stop_cost = λ i. exact_cost phrase (boundary stage i) (length phrase.mask);
}
