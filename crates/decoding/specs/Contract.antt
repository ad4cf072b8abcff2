-- What decoding promises: its answer, the output and both work areas, on every call.
use Rattle.std.specs.Prelude.{ℕ, ◌*◌, ◌≡◌, List, [], ◌∷◌, ◌++◌, length, replicate, drop, Float, Result}
use Rattle.std.proofs.Math.Option.{Option, none, some}
use Rattle.std.specs.Float.{binary64}
use Rattle.std.specs.Float.Ieee.{of_bits}
use Rattle.phrase.specs.Phrase.{Phrase, Candidate}
use Rattle.paths.specs.Demand.{Answer, Demanded}
use Rattle.frames.specs.Outcome.{Outcome, accepted, refused, outcome}
use Rattle.entries.specs.Entry.{Entry}
use Rattle.entries.specs.Words.{all_words}
use Rattle.entries.specs.Ranking.{ranked, Ranked}
use Rattle.limits.specs.Sizes.{entry_words, work_cells}
use Rattle.record.specs.Layout.{limits_of}
use Rattle.limits.specs.Refusals.{number_of}
use Rattle.record.specs.Refusals.{refusal_with}
use Rattle.record.specs.Meaning.{phrase_of}
use Rattle.limits.specs.declared.edition.Limits.{Limits}
use Rattle.limits.specs.declared.refusal.Refusal.{Refusal}
use Rattle.decoding.specs.EntryOf.{entry_for, entries_of}

-- ---- the answer

-- what a call with M candidates is answered with: "An accepted call returns M." "A refusal returns its number only."
abbrev pub outcome_of : Option Refusal → ℕ → Outcome ℕ
outcome_of none count = accepted count
outcome_of (some refusal) count = refused (number_of refusal)

-- ---- an accepted call

-- Demand 3 for one candidate and its entry: the entry is that of an answer which is as demanded, by admitted paths and their sums alone.
-- "The score (llr) is the chosen path's sum, clamped and narrowed, and the units reported are that path's, to the bit."
pub record Meets (phrase : Phrase) (candidate : Candidate) (entry : Entry) : Type 0 where
  pub answer : Answer
  pub demanded : Demanded phrase candidate.columns answer
  pub reported : entry ≡ entry_for phrase candidate answer

-- "For each candidate of every accepted record"
pub data MeetsEach (phrase : Phrase) : List Candidate → List Entry → Type 0 where
  all_met : MeetsEach phrase [] []
  each_met :
      {candidate : Candidate} {entry : Entry} {candidates : List Candidate} {entries : List Entry} →
      Meets phrase candidate entry → MeetsEach phrase candidates entries → MeetsEach phrase (candidate ∷ candidates) (entry ∷ entries)

-- The numbers of the phrase's edition say how long an entry and a work area are. "Words past M × 52 are untouched", M × 54 since document
-- 02, Ask 2. "Work areas, the first 1,088 f64 and 1,088 u32 lent, end as all-zero bits; cells beyond are untouched."
pub record Written (l : Limits) (phrase : Phrase) (best : List Float) (back out : List ℕ) (best' : List Float) (back' out' : List ℕ) :
    Type 0 where
  pub demands : MeetsEach phrase phrase.candidates (entries_of phrase)
  pub ranking : Ranked (entries_of phrase) (ranked (entries_of phrase))
  pub words : out' ≡ all_words l.units (ranked (entries_of phrase)) ++ drop (length phrase.candidates * entry_words l.units) out
  pub values : best' ≡ replicate (work_cells l) (of_bits binary64 0) ++ drop (work_cells l) best
  pub marks : back' ≡ replicate (work_cells l) 0 ++ drop (work_cells l) back

-- ---- a refused call

-- "A refusal returns its number only; all lent memory keeps its bytes."
pub record Untouched (best : List Float) (back out : List ℕ) (best' : List Float) (back' out' : List ℕ) : Type 0 where
  pub values : best' ≡ best
  pub marks : back' ≡ back
  pub words : out' ≡ out

-- ---- every call

-- A call lends the record's bytes, two work areas and the output; the primed lists are what it leaves in them.
pub record Decodes (bytes : List ℕ) (best : List Float) (back out : List ℕ) (answer : Result ℕ Refusal) (best' : List Float) (back' out' : List ℕ) :
    Type 0 where
  pub answered : outcome answer
      ≡ outcome_of (refusal_with bytes (length best) (length back) (length out)) (length (phrase_of bytes).candidates)
  pub accepts :
      refusal_with bytes (length best) (length back) (length out) ≡ none →
      Written (limits_of bytes) (phrase_of bytes) best back out best' back' out'
  pub refuses :
      (refusal : Refusal) → refusal_with bytes (length best) (length back) (length out) ≡ some refusal →
      Untouched best back out best' back' out'
