-- The tables that a row is filled from, the problems that they are the tables of, and what the units out of the row before bring.
use Rattle.std.specs.Prelude.{ℕ, ◌+◌, ◌-◌, ◌≤◌, ◌<◌, true, false, not, cond, List, ◌≡◌, T, leb, ltb, Float, get_or}
use Rattle.std.specs.Float.{binary64, nan}
use Rattle.std.specs.Float.Ieee.{add, is_nan}
use Rattle.phrase.specs.declared.costs.Costs.{Costs}
use Rattle.paths.specs.declared.passes.Strictness.{Strictness}
use Rattle.paths.specs.Problem.{Problem}
use Rattle.paths.specs.Cell.{Cell, held, best as best_of}
use Rattle.paths.specs.Inner.Held.{is_held}
use Rattle.paths.specs.CellRule.{arrival, sweep}
use Rattle.paths.specs.Inner.Marks.{Marked, marks}
use Rattle.paths.specs.Inner.Ranges.{in_range, Origins, arrives_from}
use Rattle.limits.specs.Common.{shortest_unit, longest_unit}
use Rattle.stages.specs.Tables.{StageTables, ends_in, tables_in}
use Rattle.stages.specs.declared.stage_tables.StageTables.{StageTables as HeldTables}
use Rattle.rows.specs.declared.way.Way.{Way}
use Rattle.rows.specs.Ways.{Markable, marked_by}
use Rattle.rows.specs.Rows.{Row, Same, GapsOf, first, next}

-- The tables of a stage; by boundary, the score for this unit of the last anchor before it; the cost figures; and what the pass asks.
pub record RowTables : Type 0 where
  pub tables : StageTables
  pub score : ℕ → Float
  pub costs : Costs
  pub strictness : Strictness

-- those of a stage with n boundaries, as the code's struct holds them
abbrev pub row_tables : ℕ → HeldTables → (ℕ → Float) → Costs → Strictness → RowTables
row_tables n laid score costs strictness =
    record { tables = tables_in n laid.words laid.figures; score = score; costs = costs; strictness = strictness }

abbrev pub frame_at : RowTables → ℕ → ℕ
frame_at t i = get_or t.tables.bounds i 0

-- the origins of the units into boundary j: from the lowest up to the end, those before the middle with an anchor
abbrev pub low_at : RowTables → ℕ → ℕ
low_at t j = get_or t.tables.low j 0

abbrev pub middle_at : RowTables → ℕ → ℕ
middle_at t j = get_or t.tables.middle j 0

abbrev pub end_at : RowTables → ℕ → ℕ
end_at t j = get_or (ends_in t.tables t.strictness) j 0

-- "score + duration, itself rounded once first"
abbrev pub gain : RowTables → Float → ℕ → ℕ → Float
gain t score i j = add binary64 score (get_or t.tables.duration (frame_at t j - frame_at t i - shortest_unit) nan)

-- "Score: the table at the anchor's row and the unit's column, or the unvoiced score where there is no anchor."
abbrev pub score_at : RowTables → ℕ → ℕ → Float
score_at t i j = cond (ltb i (middle_at t j)) (t.score j) t.costs.«unvoiced»

-- A problem whose units are those of the tables, each as unit s.
pub record UnitsOf (q : Problem) (s : ℕ) (t : RowTables) (n : ℕ) : Type 0 where
  pub origins : Origins q.unit_ok n (low_at t) (end_at t)
  pub value : (i j : ℕ) → i < j → j < n → T (q.unit_ok i j) → q.unit_value s i j ≡ gain t (score_at t i j) i j

-- what may be read of n boundaries: origins come before their targets, and the lengths of their units have durations
pub record Ordered (t : RowTables) (n : ℕ) : Type 0 where
  pub earlier : (j : ℕ) → j < n → end_at t j ≤ j
  pub fits :
      (i j : ℕ) → j < n → T (in_range (low_at t j) (end_at t j) i) →
      (frame_at t i + shortest_unit ≤ frame_at t j) × (frame_at t j ≤ frame_at t i + longest_unit)
  pub inside : (j : ℕ) → j < n → middle_at t j ≤ end_at t j
  pub number : T (not (is_nan t.costs.«unvoiced»))

-- a row reaches its boundaries from one on
abbrev pub ReachedFrom : (ℕ → Cell Marked) → ℕ → ℕ → Type 0
ReachedFrom cells n since = (j : ℕ) → j < n → is_held (cells j) ≡ leb since j

-- the first boundary that units reach from those of the row before, of which the first reached is `before`
pub record Begins (t : RowTables) (n before since : ℕ) : Type 0 where
  pub bounded : since ≤ n
  pub none : (j : ℕ) → j < n → j < since → arrives_from (low_at t) (end_at t) before j ≡ false
  pub some : since < n → arrives_from (low_at t) (end_at t) before since ≡ true

-- what the units from the row before bring to each boundary, lowest origin first
abbrev pub arrivals : Problem → ℕ → (ℕ → Cell Marked) → ℕ → Cell Marked
arrivals q s cells j = best_of (marks q).less j (arrival q (marks q) s cells j)

-- that, and what the gaps carry on: the row after `cells`
abbrev pub next_cells : Problem → ℕ → (ℕ → Cell Marked) → ℕ → Cell Marked
next_cells q s cells = sweep (marks q) (arrivals q s cells)

-- What the cell rule keeps for boundary j, where `last` is the value of the cell before it in this row, if the row reaches that.
pub record CellOf (t : RowTables) (best : List Float) (n before since j : ℕ) (last : Float) (way : Way) : Type 0 where
  pub markable : Markable way
  pub kept :
      (q : Problem) (s : ℕ) → GapsOf q t.tables.gap n → UnitsOf q s t n →
      (back : List ℕ) (cells : ℕ → Cell Marked) → Row best back first n cells →
      ReachedFrom cells n before → (mark : ℕ) →
      (since < j → next_cells q s cells (j - 1) ≡ held (record { value = last; mark = mark })) → next_cells q s cells j ≡ held (marked_by way)

-- The next n cells are those of the row after the first n, and all others are as they were.
pub record NextFilled (best : List Float) (back : List ℕ) (best' : List Float) (back' : List ℕ) (n : ℕ) (cells : ℕ → Cell Marked) :
    Type 0 where
  pub row : Row best' back' (next n) n cells
  pub before : (at : ℕ) → at < n → Same best back best' back' at
  pub after : (at : ℕ) → n + n ≤ at → Same best back best' back' at

abbrev pub RowFilled : RowTables → List Float → List ℕ → List Float → List ℕ → ℕ → ℕ → Type 0
RowFilled t best back best' back' n before =
    (q : Problem) (s : ℕ) → GapsOf q t.tables.gap n → UnitsOf q s t n → (cells : ℕ → Cell Marked) → Row best back first n cells →
    ReachedFrom cells n before → NextFilled best back best' back' n (next_cells q s cells)
