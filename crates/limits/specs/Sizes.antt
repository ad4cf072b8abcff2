-- The sizes that follow from the numbers of an edition.
use Rattle.std.specs.Prelude.{ℕ, suc, ◌+◌, ◌*◌}
use Rattle.limits.specs.declared.edition.Limits.{Limits}

-- "Candidate, 24 bytes: u32 id, u32 unit count k, sixteen column bytes": where the unit count and the columns stand, and how many bytes
-- there are
abbrev pub count_at : ℕ
count_at = 4

abbrev pub columns_at : ℕ
columns_at = 8

abbrev pub candidate_bytes : Limits → ℕ
candidate_bytes l = columns_at + l.units

-- Document 02, Ask 2: "Each result entry grows from 52 to 54 words [..]: after the unit count come the low and high halves of the unclamped
-- f64 sum's bits, then the triples". The words before an entry's triples, and those of an entry with room for so many units.
abbrev pub head_words : ℕ
head_words = 6

abbrev pub entry_words : ℕ → ℕ
entry_words units = head_words + 3 * units

-- "Work areas, the first 1,088 f64 and 1,088 u32 lent": a row of cells for each count of units, none included
abbrev pub work_cells : Limits → ℕ
work_cells l = suc l.units * l.boundaries
