-- What the words of an entry say of its candidate's sum (document 02, Ask 2), over admitted paths and their sums alone.
use Rattle.std.specs.Prelude.{ℕ, ◌<◌, List, ◌≡◌, T, length, get_or, Float}
use Rattle.std.specs.Float.{binary32, binary64}
use Rattle.std.specs.Float.Ieee.{of_bits, to_bits}
use Rattle.std.specs.Float.Ieee.Scale.{finite}
use Rattle.ieee.specs.Convert.{clamped_log}
use Rattle.phrase.specs.Phrase.{Phrase}
use Rattle.paths.specs.Path.{sum}
use Rattle.paths.specs.Passes.{pass_problem}
use Rattle.paths.specs.Demand.{Answer, found, none, unvoiced, answer_number, Demanded}
use Rattle.record.specs.Inner.Reading.{candidate_of}
use Rattle.entries.specs.Theory.FullSum.{sum_in}
use Rattle.decoding.specs.EntryOf.{missed_total}

-- "The unclamped f64 sum": of a path, its left-to-right sum. "For passes 4 and 5 it is the widened product before the clamp."
abbrev pub sum_for : Phrase → List ℕ → Answer → Float
sum_for phrase columns (found pass path total) = sum (pass_problem phrase pass columns) path
sum_for phrase columns none = missed_total phrase (length columns)
sum_for phrase columns unvoiced = missed_total phrase (length columns)

-- The entry whose words stand at the front is that of a candidate with an answer as demanded, by its id and its pass. Words 4 and 5 put
-- together are the bits of the answer's sum, which is finite; read as an f64 they are that sum, with a zero's sign; and the llr is that
-- sum, clamped and narrowed.
pub record ShowsSum (phrase : Phrase) (words : List ℕ) : Type 0 where
  pub number : ℕ
  pub below : number < length phrase.candidates
  pub answer : Answer
  pub demanded : Demanded phrase (candidate_of phrase number).columns answer
  pub id : get_or words 0 0 ≡ (candidate_of phrase number).id
  pub pass : get_or words 2 0 ≡ answer_number answer
  pub bits : sum_in words ≡ to_bits binary64 (sum_for phrase (candidate_of phrase number).columns answer)
  pub is_finite : T (finite (sum_for phrase (candidate_of phrase number).columns answer))
  pub value : of_bits binary64 (sum_in words) ≡ sum_for phrase (candidate_of phrase number).columns answer
  pub score : get_or words 1 0 ≡ to_bits binary32 (clamped_log (sum_for phrase (candidate_of phrase number).columns answer))
