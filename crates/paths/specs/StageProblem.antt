-- The problem that a stage, a strictness and a candidate's columns give the search (document 01, "How a path is scored").
use Rattle.std.specs.Prelude.{ℕ, suc, ◌-◌, List, [], ◌∷◌, length, get_or, Float}
use Rattle.std.specs.Float.{binary64}
use Rattle.std.specs.Float.Ieee.{add, neg}
use Rattle.phrase.specs.Phrase.{Phrase, Stage}
use Rattle.phrase.specs.Filler.{filler_cost}
use Rattle.paths.specs.declared.passes.Strictness.{Strictness}
use Rattle.paths.specs.Problem.{Problem}
use Rattle.paths.specs.Frames.{speech_in}
use Rattle.paths.specs.Anchors.{Anchor, kept, held_in}
use Rattle.paths.specs.Units.{admits_unit}

-- The filler cost of the frames from..to. "Both stages count the record's nuclei here."
unfoldable pub cost : Phrase → ℕ → ℕ → Float
unfolding speech_in held_in
cost phrase from to =
    filler_cost phrase.costs (speech_in phrase.mask from to) (length (held_in (kept phrase phrase.nuclei) from to))

-- "Score: the table at the anchor's row and the unit's column, or the unvoiced score where there is no anchor."
unfoldable pub score_of : Phrase → ℕ → List Anchor → Float
score_of phrase column [] = phrase.costs.«unvoiced»
score_of phrase column (anchor ∷ more) = phrase.score anchor.row column

-- What a unit adds: "score + duration, itself rounded once first", the duration by its stage's table at its own length.
unfoldable pub unit_value_of : Phrase → Stage → ℕ → ℕ → ℕ → Float
unfolding score_of held_in
unit_value_of phrase stage column from to =
    add binary64 (score_of phrase column (held_in (kept phrase stage) from to)) (stage.duration (to - from))

-- the frame of boundary i
abbrev pub boundary : Stage → ℕ → ℕ
boundary stage i = get_or stage.boundaries i 0

-- "A path starts at any boundary b with −cost(0, b). A gap goes to the next boundary and subtracts its cost. [..] The end
-- subtracts cost(b, F)." "Unit i takes the candidate's i-th column."
abbrev pub problem_of : Phrase → Stage → Strictness → List ℕ → Problem
problem_of phrase stage strictness columns = record {
  size = length stage.boundaries;
  start = λ i. neg (cost phrase 0 (boundary stage i));
  gap_cost = λ i. cost phrase (boundary stage i) (boundary stage (suc i));
  unit_ok = λ i j. admits_unit strictness (kept phrase stage) (boundary stage i) (boundary stage j);
  unit_value = λ unit i j. unit_value_of phrase stage (get_or columns unit 0) (boundary stage i) (boundary stage j);
  stop_cost = λ i. cost phrase (boundary stage i) (length phrase.mask);
}
