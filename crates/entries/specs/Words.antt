-- The words of a result entry. Document 01, "Spans, marks and order": "id, llr bits, pass, k, then sixteen triples start, end, row
-- (4,294,967,295: no anchor); unused triples are 0". Document 02, Ask 2: "after the unit count come the low and high halves of the
-- unclamped f64 sum's bits, then the triples". How many triples there are is the edition's to say: `most`.
use Rattle.std.specs.Prelude.{ℕ, ◌-◌, ◌*◌, ◌/◌, ◌%◌, ◌^◌, List, [], ◌∷◌, ◌++◌, length, replicate}
use Rattle.std.specs.Float.{binary32, binary64}
use Rattle.std.specs.Float.Ieee.{to_bits}
use Rattle.entries.specs.Entry.{ReportedUnit, Entry}

-- "the low and high halves" of 64 bits
abbrev pub low_half : ℕ → ℕ
low_half bits = bits % 2 ^ 32

abbrev pub high_half : ℕ → ℕ
high_half bits = bits / 2 ^ 32

-- "the unclamped f64 sum's bits", and "for passes 4 and 5 [..] the widened product before the clamp"
abbrev pub sum_bits : Entry → ℕ
sum_bits e = to_bits binary64 e.total

unfoldable pub unit_words : List ReportedUnit → List ℕ
unit_words [] = []
unit_words (u ∷ us) = u.start ∷ u.end ∷ u.row ∷ unit_words us

unfoldable pub words_of : ℕ → Entry → List ℕ
unfolding unit_words
words_of most e =
    e.id ∷ to_bits binary32 e.llr ∷ e.pass ∷ length e.units ∷ low_half (sum_bits e) ∷ high_half (sum_bits e)
    ∷ (unit_words e.units ++ replicate (3 * (most - length e.units)) 0)

-- the words of several entries, one after the other
unfoldable pub all_words : ℕ → List Entry → List ℕ
unfolding words_of
all_words most [] = []
all_words most (e ∷ es) = words_of most e ++ all_words most es
