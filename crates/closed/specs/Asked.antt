-- What one search is asked: a candidate of an accepted record, over the tables of a stage, with work areas that nothing is left in.
use Rattle.std.specs.Prelude.{ℕ, suc, ◌*◌, ◌≤◌, ◌<◌, List, ◌≡◌, Float, Option, length, get_or}
use Rattle.phrase.specs.Phrase.{Phrase}
use Rattle.phrase.specs.declared.costs.Costs.{Costs}
use Rattle.paths.specs.declared.passes.Strictness.{Strictness}
use Rattle.paths.specs.Problem.{Problem}
use Rattle.paths.specs.Inner.Ranges.{Origins}
use Rattle.record.specs.declared.layout.Layout.{Layout}
use Rattle.record.specs.Inner.Accepted.{Laid}
use Rattle.record.specs.Meaning.{phrase_of}
use Rattle.record.specs.Inner.Reading.{candidate_of}
use Rattle.stages.specs.Tables.{StageTables, tables_in}
use Rattle.stages.specs.declared.stage_tables.StageTables.{StageTables as HeldTables}
use Rattle.rows.specs.Rows.{StartsOf, GapsOf, Row, Same, first, unfilled}
use Rattle.rows.specs.Reads.{score_rows}
use Rattle.rows.specs.Units.{UnitsOf}
use Rattle.rows.specs.Ends.{StopsOf}
use Rattle.closed.specs.declared.path.Path.{Path}
use Rattle.closed.specs.Searched.{row_with, scores_in, low_in, end_in, ReadableTables}
use Rattle.closed.specs.Reported.{AllRows, Reports}

-- The number of a candidate of an accepted record, with the record's layout and costs as the code holds them.
pub record CandidateIn (bytes : List ℕ) (at : Layout) (costs : Costs) (candidate : ℕ) : Type 0 where
  pub laid : Laid bytes at
  pub figures : costs ≡ (phrase_of bytes).costs
  pub listed : candidate < length (phrase_of bytes).candidates

abbrev pub columns_of : List ℕ → ℕ → List ℕ
columns_of bytes candidate = (candidate_of (phrase_of bytes) candidate).columns

-- One search: for a path with a unit for each of a candidate's columns, each "as the pass's strictness asks", over the tables of a stage.
pub record Asked : Type 0 where
  pub phrase : Phrase
  pub columns : List ℕ
  pub strictness : Strictness
  pub tables : StageTables

-- that for a candidate of a record, over the held tables of n boundaries
abbrev pub asked_of : List ℕ → ℕ → Strictness → ℕ → HeldTables → Asked
asked_of bytes candidate strictness n held =
    record { phrase = phrase_of bytes; columns = columns_of bytes candidate; strictness = strictness; tables = tables_in n held.words held.figures }

-- A problem whose figures are those of the tables and, for each of the columns, the phrase's scores.
pub record Agrees (asked : Asked) (q : Problem) : Type 0 where
  pub starts : StartsOf q asked.tables.start asked.tables.size
  pub gaps : GapsOf q asked.tables.gap asked.tables.size
  pub stops : StopsOf q asked.tables.stop asked.tables.size
  pub origins : Origins q.unit_ok asked.tables.size (low_in asked.tables) (end_in asked.tables asked.strictness)
  pub units :
      (s : ℕ) → s < length asked.columns →
      UnitsOf q s
      (row_with asked.tables (scores_in asked.phrase asked.tables (get_or asked.columns s 0))
      asked.phrase.costs asked.strictness) asked.tables.size

-- so many cells of the work areas, for the rows of no units and of each count up to that of the columns
abbrev pub cells_for : Asked → ℕ
cells_for asked = suc (length asked.columns) * asked.tables.size

pub record Unused (best : List Float) (back : List ℕ) (cells : ℕ) : Type 0 where
  pub values : cells ≤ length best
  pub marks : cells ≤ length back
  pub zero : Row best back first cells unfilled

-- What one search is called with: a candidate of an accepted record, tables that can be read and are those of some problem, and unused cells.
pub record SearchInputs (bytes : List ℕ) (at : Layout) (costs : Costs) (candidate : ℕ) (strictness : Strictness) (n : ℕ) (held : HeldTables)
    (best : List Float) (back : List ℕ) : Type 0 where
  pub given : CandidateIn bytes at costs candidate
  pub readable : ReadableTables (tables_in n held.words held.figures) strictness (score_rows (phrase_of bytes))
  pub some : (q : Problem) × Agrees (asked_of bytes candidate strictness n held) q
  pub unused : Unused best back (cells_for (asked_of bytes candidate strictness n held))

-- The rows of every count are filled, and all cells beyond them are as they were.
pub record RowsFilled (asked : Asked) (best : List Float) (back : List ℕ) (best' : List Float) (back' : List ℕ) : Type 0 where
  pub rows : (q : Problem) → Agrees asked q → AllRows q best' back' asked.tables.size (length asked.columns)
  pub rest : (at : ℕ) → cells_for asked ≤ at → Same best back best' back' at

-- "The path chosen, for a pass and a count", in every problem that the tables are those of, or that there is none
abbrev pub ReportsFor : Asked → Option Path → Type 0
ReportsFor asked path = (q : Problem) → Agrees asked q → Reports q (length asked.columns) path
