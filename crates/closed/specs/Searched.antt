-- What the search reads of the tables of a stage, and with the scores of a unit.
use Rattle.std.specs.Prelude.{ℕ, ◌+◌, ◌≤◌, ◌<◌, List, ◌≡◌, T, Float, get_or}
use Rattle.phrase.specs.Phrase.{Phrase}
use Rattle.phrase.specs.declared.costs.Costs.{Costs}
use Rattle.paths.specs.declared.passes.Strictness.{Strictness}
use Rattle.paths.specs.Inner.Ranges.{in_range, first_reached}
use Rattle.limits.specs.Common.{shortest_unit, longest_unit}
use Rattle.limits.specs.Capacity.{most_boundaries, unit_counts}
use Rattle.stages.specs.Tables.{StageTables, ends_in, since_in}
use Rattle.rows.specs.Units.{RowTables}

abbrev pub RowsBelow : List ℕ → ℕ → ℕ → Type 0
RowsBelow rows n most = (i : ℕ) → i < n → get_or rows i 0 < most

-- the tables that the row of one unit is filled from, with its scores
abbrev pub row_with : StageTables → (ℕ → Float) → Costs → Strictness → RowTables
row_with t score costs strictness = record { tables = t; score = score; costs = costs; strictness = strictness }

-- the scores of a column, by boundary: in the row of the last anchor before it
abbrev pub scores_in : Phrase → StageTables → ℕ → ℕ → Float
scores_in phrase t column j = phrase.score (get_or t.row j 0) column

-- the origins of the units into each boundary
abbrev pub low_in : StageTables → ℕ → ℕ
low_in t j = get_or t.low j 0

abbrev pub end_in : StageTables → Strictness → ℕ → ℕ
end_in t strictness j = get_or (ends_in t strictness) j 0

-- Tables that the search can read: origins come before their targets, their units have a duration, rows are rows of scores; and what each
-- count is said to reach first follows from the origins.
pub record ReadableTables (t : StageTables) (strictness : Strictness) (score_rows : ℕ) : Type 0 where
  pub few : t.size ≤ most_boundaries
  pub earlier : (j : ℕ) → j < t.size → end_in t strictness j ≤ j
  pub inside : (j : ℕ) → j < t.size → get_or t.middle j 0 ≤ end_in t strictness j
  pub fits :
      (i j : ℕ) → j < t.size → T (in_range (low_in t j) (end_in t strictness j) i) →
      (get_or t.bounds i 0 + shortest_unit ≤ get_or t.bounds j 0) × (get_or t.bounds j 0 ≤ get_or t.bounds i 0 + longest_unit)
  pub rows : RowsBelow t.row t.size score_rows
  pub reached : (s : ℕ) → s < unit_counts → get_or (since_in t strictness) s 0 ≡ first_reached (low_in t) (end_in t strictness) t.size s
