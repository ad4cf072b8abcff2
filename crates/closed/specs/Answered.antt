-- What the search through the passes answers for a candidate, as the code's result says it.
use Rattle.std.specs.Prelude.{ℕ, true, false, List, ◌≡◌, Option, Some, None, Result, Ok, Err, IsOkAnd, length}
use Rattle.std.specs.Borrow.{Bor}
use Rattle.phrase.specs.Phrase.{Phrase, Stage}
use Rattle.paths.specs.declared.passes.Pass.{Pass}
use Rattle.paths.specs.declared.passes.Pass.TheVariants.{CountStrict, CountRelaxed}
use Rattle.paths.specs.CellRule.{chosen_path}
use Rattle.paths.specs.Path.{units_of}
use Rattle.paths.specs.Passes.{pass_problem, speaks, has_nucleus, non_empty}
use Rattle.paths.specs.Demand.{found, none, unvoiced, answer_number, Answer as Demanded}
use Rattle.paths.specs.Search.{or_else}
use Rattle.stages.specs.Tables.{Tabled, tables_in}
use Rattle.rows.specs.Traced.{UnitsAre}
use Rattle.stages.specs.declared.stage_tables.StageTables.{StageTables}
use Rattle.closed.specs.declared.path.Path.{Path}
use Rattle.closed.specs.declared.search.Found.{Found}
use Rattle.closed.specs.declared.search.Missed.{Missed}
use Rattle.closed.specs.declared.search.Missed.TheVariants.{NoPath, Unvoiced}
use Rattle.closed.specs.declared.search.Runs.{Runs}

-- the number of a result entry's pass word without a path, as for the answer that it says: "4 none [..], 5 unvoiced"
abbrev pub missed_word : Missed → ℕ
missed_word NoPath = answer_number none
missed_word Unvoiced = answer_number unvoiced

-- The code's result says what an answer says: its pass and sum, and the units of its path, or that there is no path, by the same word.
abbrev pub Says : Demanded → Result Found Missed → Type 0
Says (found pass path total) r =
    IsOkAnd r (λ (here : Found). (here.pass ≡ pass) × (here.path.sum ≡ total) × UnitsAre here.path.units (units_of path))
Says none r = r ≡ Err NoPath
Says unvoiced r = r ≡ Err Unvoiced

-- a pass, or else what the later ones give
abbrev pub pass_then : Phrase → List ℕ → Pass → Demanded → Demanded
pass_then phrase columns pass later =
    or_else pass (pass_problem phrase pass columns) (chosen_path (pass_problem phrase pass columns) (length columns)) later

-- one pass by itself
abbrev pub pass_answer : Phrase → Pass → List ℕ → Demanded
pass_answer phrase pass columns = pass_then phrase columns pass none

-- "then count strict and count relaxed if there is an added stage"
abbrev pub added_answer : Phrase → List ℕ → Demanded
added_answer phrase columns = pass_then phrase columns CountStrict (pass_answer phrase CountRelaxed columns)

-- what a pass says of the path that it found, or did not find
abbrev pub answer_in : Pass → Option Path → Result Found Missed
answer_in pass (Some path) = Ok (record { pass = pass; path = path })
answer_in pass None = Err NoPath

-- whether a phrase has passes
pub record RunsOf (phrase : Phrase) (runs : Runs) : Type 0 where
  pub spoken : runs.spoken ≡ speaks phrase.speech
  pub voiced : runs.voiced ≡ has_nucleus phrase

-- The code's struct holds the tables of a stage.
abbrev pub HoldsStage : Phrase → Stage → StageTables → Type 0
HoldsStage phrase stage held = Tabled phrase stage (tables_in (length stage.boundaries) held.words held.figures)

-- The tables of the added stage are there exactly where the phrase has one.
abbrev pub HoldsAdded : Phrase → Option (Bor StageTables) → Type 0
HoldsAdded phrase None = non_empty phrase.added.anchors ≡ false
HoldsAdded phrase (Some tables) =
    (non_empty phrase.added.anchors ≡ true) × HoldsStage phrase phrase.added tables.now
