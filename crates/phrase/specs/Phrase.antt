-- What a phrase record means, apart from its bytes (document 01, "The phrase record"). Figures are values of
-- IEEE 754; an f32 is the same value when it is widened, so nothing here says which of the two formats holds it.
use Rattle.std.specs.Prelude.{ℕ, List, Float}
use Rattle.phrase.specs.declared.costs.Costs.{Costs}

-- A candidate: its id, and the score column of each of its units in order. Its unit count is their number.
pub record Candidate : Type 0 where
  pub id : ℕ
  pub columns : List ℕ

-- Where speech starts and ends, or that there is none.
pub data Speech : Type 0 where
  silent : Speech
  spoken : ℕ → ℕ → Speech

-- A stage: the frames of its anchors, of which anchor i has the score row first_row + i; its boundaries; and its
-- duration table, the entry for a unit of so many frames.
pub record Stage : Type 0 where
  pub anchors : List ℕ
  pub first_row : ℕ
  pub boundaries : List ℕ
  pub duration : ℕ → Float

-- A phrase. The mask has a byte for each frame; `nuclei` is the stage of the nuclei, whose rows come first, and
-- `added` that of the added-stage anchors, which exists exactly where it has an anchor; `score row column`.
pub record Phrase : Type 0 where
  pub mask : List ℕ
  pub nuclei : Stage
  pub added : Stage
  pub score : ℕ → ℕ → Float
  pub candidates : List Candidate
  pub costs : Costs
  pub speech : Speech
