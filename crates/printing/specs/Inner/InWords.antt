-- What the functions that write lines speak of: a line's first part, and the lines of entries from the words that hold them.
use Rattle.std.specs.Prelude.{ℕ, zero, suc, ◌≤◌, List, [], ◌∷◌, ◌++◌, length, get_or, drop}
use Rattle.text.specs.Ascii.{ascii, decimal, hexadecimal}
use Rattle.entries.specs.Entry.{ReportedUnit}
use Rattle.limits.specs.Sizes.{head_words, entry_words}
use Rattle.printing.specs.Listing.{head_line, unit_lines}

-- a candidate's line up to its score
unfoldable pub name_text : ℕ → ℕ → List ℕ
name_text id llr = ascii "candidate " ++ decimal id ++ ascii " " ++ hexadecimal llr

-- the unit of three words
abbrev pub unit_in : List ℕ → ReportedUnit
unit_in words = record { start = get_or words 0 0; end = get_or words 1 0; row = get_or words 2 0 }

-- the units whose words stand at the front
unfoldable pub units_in : ℕ → List ℕ → List ReportedUnit
units_in zero words = []
units_in (suc count) words = record { start = get_or words 0 0; end = get_or words 1 0; row = get_or words 2 0 } ∷ units_in count (drop 3 words)

-- how many units the entry has whose words stand at the front: its word 3
abbrev pub units_of : List ℕ → ℕ
units_of words = get_or words 3 0

-- the lines of the entry whose words stand at the front: id, llr bits, pass, k, and k units
unfoldable pub lines_in : List ℕ → List ℕ
unfolding units_in
lines_in words =
    let k = units_of words in
    head_line (get_or words 0 0) (get_or words 1 0) (get_or words 2 0) k ++ unit_lines (units_in k (drop head_words words))

-- the lines of so many entries of `size` words each
unfoldable pub all_lines_in : ℕ → ℕ → List ℕ → List ℕ
unfolding lines_in
all_lines_in size zero words = []
all_lines_in size (suc count) words = lines_in words ++ all_lines_in size count (drop size words)

-- the listing of an accepted record, from the words of its entries
unfoldable pub decoded_in : ℕ → ℕ → List ℕ → List ℕ
unfolding all_lines_in
decoded_in size count words = ascii "decoded " ++ decimal count ++ ascii "\n" ++ all_lines_in size count words

-- An entry with room for `most` units stands at the front, and has no more units than that.
pub record Whole (most : ℕ) (words : List ℕ) : Type 0 where
  pub few : units_of words ≤ most
  pub there : entry_words most ≤ length words

-- so do several
pub data AllWhole (most : ℕ) : ℕ → List ℕ → Type 0 where
  none : {words : List ℕ} → AllWhole most zero words
  more : {count : ℕ} {words : List ℕ}
      → Whole most words → AllWhole most count (drop (entry_words most) words) → AllWhole most (suc count) words
