-- What a search is asked, as the code's structs hold it.
use Rattle.std.specs.Prelude.{List, ℕ, Float}
use Rattle.closed.specs.declared.task.StageTask.{StageTask}
use Rattle.closed.specs.Asked.{Asked, asked_of, SearchInputs}

abbrev pub asked_by : StageTask → Asked
asked_by stage =
    asked_of stage.task.accepted.bytes.now stage.task.candidate stage.strictness stage.n stage.tables.now

-- What one search is called with: a stage's tables that can be read and are those of some problem, and unused cells.
abbrev pub Searchable : StageTask → List Float → List ℕ → Type 0
Searchable stage best back =
    SearchInputs stage.task.accepted.bytes.now stage.task.accepted.at stage.task.costs stage.task.candidate stage.strictness stage.n stage.tables.now best back
