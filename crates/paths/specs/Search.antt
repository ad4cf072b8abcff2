-- The answer for a candidate: the first pass that admits a path, with the path that the cell rule keeps there, or no path
-- (document 01, "How a path is scored"). Demand.antt says what every answer has to be; which of several best paths stands is said here.
use Rattle.std.specs.Prelude.{ℕ, cond, List, [], ◌∷◌, length}
use Rattle.phrase.specs.Phrase.{Phrase}
use Rattle.paths.specs.declared.passes.Pass.{Pass}
use Rattle.paths.specs.Problem.{Problem}
use Rattle.paths.specs.Path.{Path, sum}
use Rattle.paths.specs.Cell.{Cell, empty, held}
use Rattle.paths.specs.CellRule.{chosen_path}
use Rattle.paths.specs.Passes.{pass_problem, has_nucleus, passes}
use Rattle.paths.specs.Demand.{Answer, found, none, unvoiced}

-- a rule that picks a path of a problem for a unit count, where it has one
abbrev pub PathRule : Type 0
PathRule = Problem → ℕ → Cell Path

-- the path picked in a pass, with its sum, or else what the later passes give
abbrev pub or_else : Pass → Problem → Cell Path → Answer → Answer
or_else pass problem empty later = later
or_else pass problem (held path) later = found pass path (sum problem path)

-- the answer from the passes listed, by a rule for the single pass; with none left, "no path"
unfoldable pub search_by : PathRule → Phrase → List ℕ → List Pass → Answer
search_by rule phrase columns [] = cond (has_nucleus phrase) none unvoiced
search_by rule phrase columns (pass ∷ others) =
    let later = search_by rule phrase columns others in
    or_else pass (pass_problem phrase pass columns) (rule (pass_problem phrase pass columns) (length columns)) later

-- "The path chosen, for a pass and a count, is the one that the cell rule below keeps."
unfoldable pub chosen : Phrase → List ℕ → Answer
unfolding search_by passes chosen_path
chosen phrase columns = search_by chosen_path phrase columns (passes phrase)
