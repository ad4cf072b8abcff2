-- The two sentences of document 02, Ask 4, with their numbers written out, so that a reader need take neither from a definition: two scaled
-- numbers differ by at most 2 ^ -21 where 2 ^ 21 times the difference is at most 2 ^ 1075.
use Prim.Native.Nat.{ℕ, ◌*◌, ◌^◌, ◌≤◌, ◌<◌}
use mathlib.Core.List.{List}
use mathlib.Core.Option.{none}
use mathlib.Core.Path.{◌≡◌}
use lib.ListN.{length, get_or}
use lib.Ieee.{Float}
use Rattle.exact.specs.Scaled.{scale, scaled}
use Rattle.exact.specs.Apart.{apart, excess}
use Rattle.phrase.specs.Phrase.{Phrase}
use Rattle.paths.specs.declared.passes.Pass.{Pass}
use Rattle.paths.specs.declared.passes.Strictness.{Strictness}
use Rattle.paths.specs.Path.{Path, sum, count, Admitted}
use Rattle.paths.specs.StageProblem.{problem_of}
use Rattle.paths.specs.Passes.{pass_stage, pass_problem}
use Rattle.paths.specs.Demand.{found}
use Rattle.record.specs.Layout.{layout_of}
use Rattle.record.specs.Meaning.{phrase_of, stage_of}
use Rattle.record.specs.Refusals.{refusal_of}
use Rattle.record.specs.declared.read.Which.{Which}
use Rattle.distance.specs.ExactSum.{exact_sum}
use Rattle.distance.specs.ExactStage.{exact_of}
use Rattle.distance.specs.Distance.{NearAnswer, near_path}
use Rattle.distance.proofs.Records.{every_path}

-- every path of an accepted record
path_sum :
    (bytes : List ℕ) → refusal_of bytes ≡ none → (columns : List ℕ) →
    ((unit : ℕ) → unit < length columns → get_or columns unit 0 < (layout_of bytes).scores.count) →
    (which : Which) (strictness : Strictness) (path : Path) →
    Admitted (problem_of (phrase_of bytes) (stage_of which (phrase_of bytes)) strictness columns) path →
    apart (scaled (sum (problem_of (phrase_of bytes) (stage_of which (phrase_of bytes)) strictness columns) path))
    (exact_sum (exact_of (phrase_of bytes) (stage_of which (phrase_of bytes)) columns) path) * 2 ^ 21 ≤ 2 ^ 1075
unfolding scale
path_sum bytes accepted columns below which strictness path admitted =
    (every_path bytes accepted columns below which strictness path admitted).near

module _ {phrase : Phrase} {columns : List ℕ} {pass : Pass} {path : Path} {total : Float} where
  -- the sum of an answer
  returned_sum : NearAnswer phrase columns (found pass path total)
      → apart (scaled total) (exact_sum (exact_of phrase (pass_stage phrase pass) columns) path) * 2 ^ 21 ≤ 2 ^ 1075
  unfolding scale
  returned_sum (near_path near none_above) = near.near

  -- and its path
  returned_path : NearAnswer phrase columns (found pass path total)
      → (other : Path) → Admitted (pass_problem phrase pass columns) other → count other ≡ length columns
      → excess (exact_sum (exact_of phrase (pass_stage phrase pass) columns) other)
      (exact_sum (exact_of phrase (pass_stage phrase pass) columns) path) * 2 ^ 20 ≤ 2 ^ 1075
  unfolding scale
  returned_path (near_path near none_above) = none_above
