-- How near the f64 sums are to the exact ones (document 02, Ask 4): of any path, and of the path that decoding returns.
use Rattle.std.specs.Prelude.{ℕ, ◌*◌, ◌^◌, ◌≤◌, ◌<◌, List, ◌++◌, ◌≡◌, T, length, get_or, Float}
use Rattle.std.specs.Float.Ieee.Scale.{finite}
use Rattle.exact.specs.Scaled.{scale, scaled}
use Rattle.exact.specs.Apart.{apart, excess}
use Rattle.phrase.specs.Phrase.{Phrase, Stage}
use Rattle.paths.specs.declared.passes.Pass.{Pass}
use Rattle.paths.specs.Path.{Path, count, Admitted}
use Rattle.paths.specs.Passes.{pass_stage, pass_problem}
use Rattle.paths.specs.Demand.{Answer, found, none, unvoiced}
use Rattle.paths.specs.Search.{chosen}
use Rattle.record.specs.Inner.Reading.{candidate_of}
use Rattle.entries.specs.Words.{words_of}
use Rattle.decoding.specs.EntryOf.{entry_of}
use Rattle.distance.specs.ExactSum.{exact_sum}
use Rattle.distance.specs.ExactStage.{exact_of}

-- "the f64 sum differs from the exact sum of the same lent figures by at most 2^-21": binary digits behind the point
abbrev pub sum_digits : ℕ
sum_digits = 21

-- "no path [..] has an exact sum above that of the returned path by more than 2^-20"
abbrev pub path_digits : ℕ
path_digits = 20

-- So many parts come to at most 2 ^ -digits: `scale` parts make 1.
abbrev pub AtMost : ℕ → ℕ → Type 0
AtMost parts digits = parts * 2 ^ digits ≤ scale

-- A column for each unit, each below the number of columns that the record has. The list may be longer than any candidate's, since a path
-- has "any number of gaps and units" (document 01), and each of them takes any column; units past its end take column 0.
abbrev pub ColumnsBelow : ℕ → List ℕ → Type 0
ColumnsBelow columns given = (unit : ℕ) → unit < length given → get_or given unit 0 < columns

-- A path's f64 sum, which is finite, beside its exact sum.
pub record NearExact (phrase : Phrase) (stage : Stage) (columns : List ℕ) (path : Path) (total : Float) : Type 0 where
  pub is_finite : T (finite total)
  pub near : AtMost (apart (scaled total) (exact_sum (exact_of phrase stage columns) path)) sum_digits

-- No path of the candidate's unit count that the pass admits has an exact sum above this path's by more than 2 ^ -20.
abbrev pub NoneMuchAbove : Phrase → Pass → List ℕ → Path → Type 0
NoneMuchAbove phrase pass columns path =
    (other : Path) → Admitted (pass_problem phrase pass columns) other → count other ≡ length columns →
    AtMost (excess (exact_sum (exact_of phrase (pass_stage phrase pass) columns) other)
    (exact_sum (exact_of phrase (pass_stage phrase pass) columns) path)) path_digits

-- Both, of an answer with a path. Without one the entry shows k × the unvoiced score, which is no path's sum; nothing is said of it here.
pub data NearAnswer (phrase : Phrase) (columns : List ℕ) : Answer → Type 0 where
  near_path :
      {pass : Pass} {path : Path} {total : Float} →
      NearExact phrase (pass_stage phrase pass) columns path total → NoneMuchAbove phrase pass columns path →
      NearAnswer phrase columns (found pass path total)
  none_near : NearAnswer phrase columns none
  unvoiced_near : NearAnswer phrase columns unvoiced

-- Words that begin with the entry of one of the phrase's candidates, with room for `most` units. The entry is that of the candidate's answer
-- (`entry_of`), whose path is the one returned.
pub record ReturnsNear (most : ℕ) (phrase : Phrase) (words : List ℕ) : Type 0 where
  pub number : ℕ
  pub inside : number < length phrase.candidates
  pub later : List ℕ
  pub begins : words ≡ words_of most (entry_of phrase (candidate_of phrase number)) ++ later
  pub near : NearAnswer phrase (candidate_of phrase number).columns (chosen phrase (candidate_of phrase number).columns)
