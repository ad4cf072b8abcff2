-- The result entry of one candidate (document 01, "Spans, marks and order"). It looks at nothing of the other candidates.
use Rattle.std.specs.Prelude.{ℕ, List, map, pos, length, replicate, Float}
use Rattle.std.specs.Float.{binary32}
use Rattle.std.specs.Float.Ieee.{mul, of_int}
use Rattle.limits.specs.Common.{absent}
use Rattle.ieee.specs.Convert.{clamped_log}
use Rattle.phrase.specs.Phrase.{Phrase, Candidate}
use Rattle.paths.specs.Demand.{Answer, found, none, unvoiced, answer_number}
use Rattle.paths.specs.Search.{chosen}
use Rattle.entries.specs.Entry.{ReportedUnit, Entry}
use Rattle.decoding.specs.Report.{low_edge, reported_units}

-- "No path: f32 k × unvoiced, widened": an f32 is the same value when it is widened.
abbrev pub missed_by : ℕ → Float → Float
missed_by k score = mul binary32 (of_int binary32 (pos k)) score

abbrev pub missed_total : Phrase → ℕ → Float
missed_total phrase k = missed_by k phrase.costs.«unvoiced»

-- "No path: k empty spans at speech start, or 0 without speech, each with row 4,294,967,295."
abbrev pub missed_units : Phrase → ℕ → List ReportedUnit
missed_units phrase k = replicate k (record { start = low_edge phrase.speech; end = low_edge phrase.speech; row = absent })

-- the score before it is clamped: the chosen path's sum, or what stands in for it
abbrev pub total_of : Phrase → ℕ → Answer → Float
total_of phrase k (found pass path total) = total
total_of phrase k none = missed_total phrase k
total_of phrase k unvoiced = missed_total phrase k

abbrev pub units_for : Phrase → ℕ → Answer → List ReportedUnit
units_for phrase k (found pass path total) = reported_units phrase pass path
units_for phrase k none = missed_units phrase k
units_for phrase k unvoiced = missed_units phrase k

-- The entry that an answer gives. "llr: the sum clamped to ±1,000,000, then nearest-even to f32."
unfoldable pub entry_for : Phrase → Candidate → Answer → Entry
entry_for phrase candidate answer =
    let k = length candidate.columns in
    record {
      id = candidate.id;
      pass = answer_number answer;
      total = total_of phrase k answer;
      llr = clamped_log (total_of phrase k answer);
      units = units_for phrase k answer;
    }

-- A search answers for a phrase and a candidate's columns.
abbrev pub Search : Type 0
Search = Phrase → List ℕ → Answer

unfoldable pub entry_by : Search → Phrase → Candidate → Entry
unfolding entry_for
entry_by search phrase candidate = entry_for phrase candidate (search phrase candidate.columns)

-- "The path chosen, for a pass and a count, is the one that the cell rule below keeps."
abbrev pub entry_of : Phrase → Candidate → Entry
entry_of = entry_by chosen

-- the entries of all candidates, in the caller's order
abbrev pub entries_of : Phrase → List Entry
entries_of phrase = map (entry_of phrase) phrase.candidates
