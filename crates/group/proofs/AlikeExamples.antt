-- The law of phrases that read alike at work: a phrase whose columns are numbered otherwise, with any figure wherever decoding reads none
-- and with any other candidates, gives a candidate the same words. The sample phrase is one.
use Prim.Native.Nat.{ℕ, zero, suc, ◌+◌, ◌-◌, ◌<◌}
use mathlib.Core.Bool.{Bool, true, cond, ◌&&◌}
use mathlib.Core.List.{List, [], ◌∷◌, map}
use mathlib.Core.Path.{◌≡◌, refl, sym, ap, ◌∙◌}
use native.Mathlib.Omega.{arith}
use lib.Dec.{T, T_not, leb, ltb, le→leb, lt→ltb}
use lib.ListN.{length, get_or, replicate, length-map}
use lib.Ieee.{Float}
use lib.Ieee.Fits.{and_i}
use Rattle.laws.proofs.Tests.{by_choice}
use Rattle.phrase.specs.Phrase.{Phrase, Stage, Candidate}
use Rattle.limits.specs.Common.{shortest_unit, longest_unit}
use Rattle.paths.specs.Units.{fits_unit}
use Rattle.paths.specs.Passes.{non_empty}
use Rattle.paths.specs.Theory.Alike.{SameDurations, row_count, ReadsAlike}
use Rattle.entries.specs.Words.{words_of}
use Rattle.record.specs.Layout.{limits_of}
use Rattle.record.specs.Meaning.{phrase_of}
use Rattle.sample.specs.Sample.{sample}
use Rattle.decoding.specs.EntryOf.{entry_of}
use Rattle.decoding.proofs.Alike.{same_entry_words, rows_below}
use Rattle.group.proofs.Group.{worked_words}

-- ---- any phrase

-- a stage with another figure for the lengths that no unit has and, where the stage does not exist, for all
abbrev rewritten_stage : Bool → Float → Stage → Stage
rewritten_stage exists other stage = record {
  anchors = stage.anchors;
  first_row = stage.first_row;
  boundaries = stage.boundaries;
  duration = λ frames. cond (exists && fits_unit frames) (stage.duration frames) other;
}

-- a phrase with at each column what was at another, `old column`, and with another figure where there is no row; and other candidates
abbrev rewritten : (ℕ → ℕ) → Float → List Candidate → Phrase → Phrase
rewritten old other candidates phrase = record {
  mask = phrase.mask;
  nuclei = rewritten_stage true other phrase.nuclei;
  added = rewritten_stage (non_empty phrase.added.anchors) other phrase.added;
  score = λ row column. cond (ltb row (row_count phrase)) (phrase.score row (old column)) other;
  candidates = candidates;
  costs = phrase.costs;
  speech = phrase.speech;
}

durations_stay : (exists : Bool) (other : Float) (stage : Stage) → T exists → SameDurations stage (rewritten_stage exists other stage)
durations_stay exists other stage there frames least most =
    by_choice (λ (duration : Float). stage.duration frames ≡ duration) (exists && fits_unit frames) (λ t. refl)
    (λ no. absurd (T_not (exists && fits_unit frames) no (and_i exists (fits_unit frames) there fits)))
  where
    fits : T (fits_unit frames)
    fits = and_i (leb shortest_unit frames) (leb frames longest_unit) (le→leb shortest_unit frames least) (le→leb frames longest_unit most)

get_d_mapped : (f : ℕ → ℕ) (columns : List ℕ) (unit : ℕ) → unit < length columns → get_or (map f columns) unit 0 ≡ f (get_or columns unit 0)
get_d_mapped f [] unit h = absurd (omega arith)
get_d_mapped f (column ∷ columns) zero h = refl
get_d_mapped f (column ∷ columns) (suc unit) h = get_d_mapped f columns unit (omega arith)

module _ (phrase : Phrase) (new old : ℕ → ℕ) (back : (column : ℕ) → old (new column) ≡ column) (other : Float)
    (candidates : List Candidate) where
  pub rewritten_alike : (columns : List ℕ) → ReadsAlike phrase columns (rewritten old other candidates phrase) (map new columns)
  rewritten_alike columns = record {
    mask = refl;
    nuclei = record { anchors = refl; first_row = refl; boundaries = refl };
    added = record { anchors = refl; first_row = refl; boundaries = refl };
    costs = refl;
    speech = refl;
    durations = durations_stay true other phrase.nuclei tt;
    added_durations = λ exists. durations_stay (non_empty phrase.added.anchors) other phrase.added exists;
    unit_count = sym (length-map columns new);
    scores = λ unit row below within.
        by_choice (λ (score : Float). phrase.score row (get_or columns unit 0) ≡ score) (ltb row (row_count phrase))
        (λ t. ap (phrase.score row) (sym (ap old (get_d_mapped new columns unit below) ∙ back (get_or columns unit 0))))
        (λ no. absurd (T_not (ltb row (row_count phrase)) no (lt→ltb row (row_count phrase) within)));
  }

-- ---- the sample phrase

-- its candidate 3, whose one unit has this column
abbrev third : ℕ → Candidate
third column = record { id = 3; columns = column ∷ [] }

abbrev third_words : List ℕ
third_words = 3 ∷ 0xc0100000 ∷ 0 ∷ 1 ∷ 0 ∷ 0xc0020000 ∷ 4 ∷ 14 ∷ 0 ∷ replicate 45 0

sample_third : words_of (limits_of sample).units (entry_of (phrase_of sample) (third 0)) ≡ third_words
unfolding worked_words sample
sample_third = refl

-- with its column put at 5
sample_moved : (other : Float) (candidates : List Candidate)
    → words_of (limits_of sample).units (entry_of (rewritten (λ column. column - 5) other candidates (phrase_of sample)) (third 5))
    ≡ third_words
sample_moved other candidates =
    sym (same_entry_words (third 0) (third 5) (rows_below sample)
    (rewritten_alike (phrase_of sample) (λ column. column + 5) (λ column. column - 5) (λ column. omega arith) other candidates (0 ∷ [])) refl
    (limits_of sample).units)
    ∙ sample_third
