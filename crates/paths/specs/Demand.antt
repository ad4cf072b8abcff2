-- Demand 3 of the request, for one candidate of a phrase: what its answer has to be, by admitted paths and their sums alone.
-- `columns` are the candidate's score columns, one for each of its units.
use Rattle.std.specs.Prelude.{ℕ, ◌≡◌, not, List, [], ◌∷◌, T, length, Float}
use Rattle.phrase.specs.Phrase.{Phrase}
use Rattle.paths.specs.declared.passes.Pass.{Pass}
use Rattle.paths.specs.Path.{Path, sum, Best, HasPath, NoPath}
use Rattle.paths.specs.Passes.{pass_number, pass_problem, speaks, has_nucleus, in_order}

-- What decoding says of a candidate: the pass, the path chosen and its sum; or that there is no path, by one of two words.
pub data Answer : Type 0 where
  found : Pass → Path → Float → Answer
  none : Answer
  unvoiced : Answer

-- "4 none (no path, but a nucleus in the mask), 5 unvoiced (no path and no nucleus in the mask)"
abbrev pub answer_number : Answer → ℕ
answer_number (found pass path total) = pass_number pass
answer_number none = 4
answer_number unvoiced = 5

-- the pass admits a path with the candidate's unit count
abbrev pub Admits : Phrase → List ℕ → Pass → Type 0
Admits phrase columns pass = HasPath (pass_problem phrase pass columns) (length columns)

-- it admits none
abbrev pub AdmitsNone : Phrase → List ℕ → Pass → Type 0
AdmitsNone phrase columns pass = NoPath (pass_problem phrase pass columns) (length columns)

-- the first of the passes listed that admits one
pub data FirstOf (phrase : Phrase) (columns : List ℕ) (pass : Pass) : List Pass → Type 0 where
  here : {later : List Pass} → Admits phrase columns pass → FirstOf phrase columns pass (pass ∷ later)
  after : {earlier : Pass} {later : List Pass}
      → AdmitsNone phrase columns earlier → FirstOf phrase columns pass later → FirstOf phrase columns pass (earlier ∷ later)

-- something holds of each of the passes listed
pub data EachPass (P : Pass → Type 0) : List Pass → Type 0 where
  all_done : EachPass P []
  each_of : {pass : Pass} {later : List Pass} → P pass → EachPass P later → EachPass P (pass ∷ later)

-- "If the record has speech by its edges, a nucleus in its mask, and some pass that admits a path with the candidate's unit count,
-- the pass named is the first that does, in the stated order. It admits the path chosen, and every other path that it admits for
-- that count has a left-to-right f64 sum at most as large."
pub record Found (phrase : Phrase) (columns : List ℕ) (pass : Pass) (path : Path) (total : Float) : Type 0 where
  pub speech : T (speaks phrase.speech)
  pub nucleus : T (has_nucleus phrase)
  pub first : FirstOf phrase columns pass (in_order phrase)
  pub best : Best (pass_problem phrase pass columns) (length columns) path
  pub summed : total ≡ sum (pass_problem phrase pass columns) path

-- "The answer is 'no path' exactly when speech or a nucleus is lacking, or no pass admits a path of that count; the word is then
-- 'unvoiced' if no nucleus is in the mask, and 'none' otherwise."
pub data Demanded (phrase : Phrase) (columns : List ℕ) : Answer → Type 0 where
  a_path :
      {pass : Pass} {path : Path} {total : Float} → Found phrase columns pass path total → Demanded phrase columns (found pass path total)
  no_path :
      T (has_nucleus phrase) → (T (speaks phrase.speech) → EachPass (AdmitsNone phrase columns) (in_order phrase)) →
      Demanded phrase columns none
  no_nucleus : T (not (has_nucleus phrase)) → Demanded phrase columns unvoiced
