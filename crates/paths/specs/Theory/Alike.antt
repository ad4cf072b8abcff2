-- When two phrases read alike for two candidates, each given by its score columns: in all that decoding reads of a phrase for one
-- candidate. A figure that it does not read may differ: another column's score, a duration of a length that no unit has, another candidate.
-- Nor need a column have the same number on both sides.
use Rattle.std.specs.Prelude.{ℕ, ◌+◌, ◌≤◌, ◌<◌, ◌≡◌, List, T, length, get_or}
use Rattle.phrase.specs.Phrase.{Phrase, Stage}
use Rattle.limits.specs.Common.{shortest_unit, longest_unit}
use Rattle.paths.specs.Passes.{non_empty}

-- the same lists and first row
pub record SameLists (stage stage' : Stage) : Type 0 where
  pub anchors : stage.anchors ≡ stage'.anchors
  pub first_row : stage.first_row ≡ stage'.first_row
  pub boundaries : stage.boundaries ≡ stage'.boundaries

-- the same duration for each length that a unit may have
abbrev pub SameDurations : Stage → Stage → Type 0
SameDurations stage stage' = (frames : ℕ) → shortest_unit ≤ frames → frames ≤ longest_unit → stage.duration frames ≡ stage'.duration frames

-- how many score rows a phrase has: N + A
abbrev pub row_count : Phrase → ℕ
row_count phrase = length phrase.nuclei.anchors + length phrase.added.anchors

pub record ReadsAlike (phrase : Phrase) (columns : List ℕ) (phrase' : Phrase) (columns' : List ℕ) : Type 0 where
  pub mask : phrase.mask ≡ phrase'.mask
  pub nuclei : SameLists phrase.nuclei phrase'.nuclei
  pub added : SameLists phrase.added phrase'.added
  pub costs : phrase.costs ≡ phrase'.costs
  pub speech : phrase.speech ≡ phrase'.speech
  pub durations : SameDurations phrase.nuclei phrase'.nuclei
  pub added_durations : T (non_empty phrase.added.anchors) → SameDurations phrase.added phrase'.added
  pub unit_count : length columns ≡ length columns'
  pub scores : (unit row : ℕ) → unit < length columns → row < row_count phrase
      → phrase.score row (get_or columns unit 0) ≡ phrase'.score row (get_or columns' unit 0)

-- The rows of both stages are among those. In a record's phrase they are: "Rows are nuclei, then anchors."
pub record RowsBelow (phrase : Phrase) : Type 0 where
  pub nuclei : phrase.nuclei.first_row + length phrase.nuclei.anchors ≤ row_count phrase
  pub added : phrase.added.first_row + length phrase.added.anchors ≤ row_count phrase
