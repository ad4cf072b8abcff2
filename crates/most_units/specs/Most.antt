-- How many units would have fitted (document 02, Ask 1): the largest unit count that any admitted path has.
use Rattle.std.specs.Prelude.{ℕ, ◌≤◌, ◌<◌, []}
use Rattle.phrase.specs.Phrase.{Phrase, Stage}
use Rattle.paths.specs.declared.passes.Strictness.{Strictness}
use Rattle.paths.specs.Problem.{Problem}
use Rattle.paths.specs.Path.{Path, count, Admitted, HasPath}
use Rattle.paths.specs.StageProblem.{problem_of}

-- "Here and in Ask 10 a stage and a strictness admit document 01's paths whether or not decoding would run that pass." Which paths these
-- are does not hang on a candidate's columns (proofs/StageAlone.antt), so that none are given.
abbrev pub paths_of : Phrase → Stage → Strictness → Problem
paths_of phrase stage strictness = problem_of phrase stage strictness []

-- A count of units as it is given under a cap, "Counts are capped at 16": "The count is the true maximum: a path of that many units exists
-- and, below the cap, none of one more", nor of any more. "Every smaller count is also admitted, and that is proved too."
pub record Most (q : Problem) (cap units : ℕ) : Type 0 where
  pub there : HasPath q units
  pub largest : units < cap → (path : Path) → Admitted q path → count path ≤ units
  pub smaller : (fewer : ℕ) → fewer < units → HasPath q fewer
  pub capped : units ≤ cap
