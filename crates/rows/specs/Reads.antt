-- What is read of the work area and of a stage's tables for one boundary.
use Rattle.std.specs.Prelude.{ℕ, ◌+◌, ◌-◌, ◌≤◌, ◌<◌, max, cond, List, ltb, Float, length, get_or}
use Rattle.std.specs.Float.{binary64, nan}
use Rattle.std.specs.Float.Ieee.{add}
use Rattle.phrase.specs.Phrase.{Phrase}
use Rattle.phrase.specs.declared.costs.Costs.{Costs}
use Rattle.record.specs.declared.layout.Layout.{Layout}
use Rattle.record.specs.Inner.Accepted.{Laid}
use Rattle.record.specs.Meaning.{phrase_of}
use Rattle.paths.specs.declared.passes.Strictness.{Strictness}
use Rattle.limits.specs.Capacity.{most_boundaries}
use Rattle.limits.specs.Common.{shortest_unit, durations}
use Rattle.stages.specs.Tables.{entry_by}
use Rattle.stages.specs.declared.stage_tables.StageTables.{StageTables}
use Rattle.stages.specs.declared.stage_tables.StageWords.{StageWords}
use Rattle.rows.specs.declared.way.Way.{Way}
use Rattle.rows.specs.declared.way.Way.TheVariants.{Unit}
use Rattle.rows.specs.Ways.{or_each}

-- how many rows of scores a phrase has
abbrev pub score_rows : Phrase → ℕ
score_rows phrase = length phrase.nuclei.anchors + length phrase.added.anchors

-- "the table at the anchor's row and the unit's column", for the last kept anchor before boundary j
abbrev pub score_read : List ℕ → StageWords → ℕ → ℕ → Float
score_read bytes words column j = (phrase_of bytes).score (get_or words.rows j 0) column

-- The scores of a column can be read for n boundaries.
pub record Scorable (bytes : List ℕ) (at : Layout) (words : StageWords) (column n : ℕ) : Type 0 where
  pub laid : Laid bytes at
  pub numbered : column < at.scores.count
  pub rows : (j : ℕ) → j < n → get_or words.rows j 0 < score_rows (phrase_of bytes)

-- the first boundary that a count of units reaches
abbrev pub reached_by : StageWords → Strictness → ℕ → ℕ
reached_by words strictness units = entry_by words.since strictness units

-- the way by the unit with this score from a boundary to frame `to`
abbrev pub unit_way : List Float → StageTables → ℕ → Float → ℕ → Way
unit_way best tables to score origin =
    Unit
    (add binary64 (get_or best origin nan)
    (add binary64 score (get_or tables.figures.durations (to - get_or tables.words.bounds origin 0 - shortest_unit) nan)))
    origin

-- the boundary is one of the stage, reached in the row before, and the unit's length has a duration
pub record UnitRead (best : List Float) (tables : StageTables) (to origin : ℕ) : Type 0 where
  pub placed : origin < length best
  pub listed : origin < most_boundaries
  pub shortest : get_or tables.words.bounds origin 0 + shortest_unit ≤ to
  pub longest : to - get_or tables.words.bounds origin 0 - shortest_unit < durations

-- What is kept of the units into boundary j from the origins low up to but not including end, of which there is one: those from below the
-- middle with the score of their anchor, the others with the unvoiced one.
unfoldable pub units_kept : List Float → StageTables → Float → Costs → ℕ → ℕ → ℕ → Way
unfolding or_each
units_kept best tables score costs j low end =
    let middle = get_or tables.words.origins.ends.strict j 0 in
    let rest = max (low + 1) middle in
    let to = get_or tables.words.bounds j 0 in
    let voice = cond (ltb low middle) score costs.«unvoiced» in
    let first = unit_way best tables to voice low in
    let anchored = or_each (unit_way best tables to voice) first (low + 1) (middle - (low + 1)) in
    or_each (unit_way best tables to costs.«unvoiced») anchored rest (end - rest)
