-- The listing of a record (document 01, "Sample phrase"), as bytes. It is made from entries and says nothing of their words, so it does not
-- depend on how many of those an edition has, or on how many units an entry has room for.
use Rattle.std.specs.Prelude.{ℕ, cond, List, [], ◌∷◌, ◌++◌, eqb, length, get_or}
use Rattle.std.proofs.Math.Option.{Option, none, some}
use Rattle.std.specs.Float.{binary32}
use Rattle.std.specs.Float.Ieee.{to_bits}
use Rattle.text.specs.Ascii.{ascii, decimal, hexadecimal}
use Rattle.phrase.specs.Phrase.{Phrase}
use Rattle.limits.specs.Refusals.{number_of}
use Rattle.record.specs.Refusals.{refusal_of}
use Rattle.record.specs.Meaning.{phrase_of}
use Rattle.limits.specs.declared.refusal.Refusal.{Refusal}
use Rattle.limits.specs.Common.{absent}
use Rattle.entries.specs.Entry.{ReportedUnit, Entry}
use Rattle.entries.specs.Ranking.{ranked}
use Rattle.decoding.specs.EntryOf.{entries_of}

-- "row or `-`"
unfoldable pub row_text : ℕ → List ℕ
row_text row = cond (eqb row absent) (ascii "-") (decimal row)

-- "and for each unit start, end, row or `-`"
unfoldable pub unit_line : ReportedUnit → List ℕ
unfolding row_text
unit_line unit = decimal unit.start ++ ascii " " ++ decimal unit.end ++ ascii " " ++ row_text unit.row ++ ascii "\n"

unfoldable pub unit_lines : List ReportedUnit → List ℕ
unfolding unit_line
unit_lines [] = []
unit_lines (unit ∷ units) = unit_line unit ++ unit_lines units

-- "Pass: 0 nuclei-strict, 1 count-strict, 2 count-relaxed, 3 nuclei-relaxed, 4 none [..], 5 unvoiced"; there is no other.
abbrev pub pass_words : List (List ℕ)
pass_words =
    ascii "nuclei-strict" ∷ ascii "count-strict" ∷ ascii "count-relaxed" ∷ ascii "nuclei-relaxed" ∷ ascii "none" ∷ ascii "unvoiced" ∷ []

unfoldable pub pass_word : ℕ → List ℕ
pass_word pass = get_or pass_words pass []

-- "id, llr bits as eight hexadecimal digits, pass word, k"
unfoldable pub head_line : ℕ → ℕ → ℕ → ℕ → List ℕ
unfolding pass_word
head_line id llr pass k =
    ascii "candidate " ++ decimal id ++ ascii " " ++ hexadecimal llr ++ ascii " " ++ pass_word pass ++ ascii " " ++ decimal k ++ ascii "\n"

unfoldable pub entry_lines : Entry → List ℕ
unfolding head_line unit_lines
entry_lines entry = head_line entry.id (to_bits binary32 entry.llr) entry.pass (length entry.units) ++ unit_lines entry.units

unfoldable pub all_lines : List Entry → List ℕ
unfolding entry_lines
all_lines [] = []
all_lines (entry ∷ entries) = entry_lines entry ++ all_lines entries

-- "The first line gives M. Then for each ranked candidate: [..]"
unfoldable pub decoded_text : ℕ → List Entry → List ℕ
unfolding all_lines
decoded_text count entries = ascii "decoded " ++ decimal count ++ ascii "\n" ++ all_lines entries

-- "A refusal prints `refused N`."
unfoldable pub refused_text : ℕ → List ℕ
refused_text number = ascii "refused " ++ decimal number ++ ascii "\n"

abbrev pub listing_for : Option Refusal → Phrase → List ℕ
listing_for none phrase = decoded_text (length phrase.candidates) (ranked (entries_of phrase))
listing_for (some refusal) phrase = refused_text (number_of refusal)

-- what the listing program prints for a record
unfoldable pub listing_of : List ℕ → List ℕ
unfolding decoded_text refused_text
listing_of bytes = listing_for (refusal_of bytes) (phrase_of bytes)
