-- What the decoding of an accepted record asks of the lent memory, and what it leaves there.
use Rattle.std.specs.Prelude.{ℕ, ◌*◌, ◌≤◌, List, ◌++◌, ◌≡◌, length, drop, replicate, Float}
use Rattle.std.specs.Float.{binary64}
use Rattle.std.specs.Float.Ieee.{of_bits}
use Rattle.limits.specs.Sizes.{entry_words, work_cells}
use Rattle.record.specs.Layout.{limits_of}
use Rattle.record.specs.Meaning.{phrase_of}
use Rattle.entries.specs.Words.{all_words}
use Rattle.entries.specs.Ranking.{ranked}
use Rattle.decoding.specs.EntryOf.{entries_of}

-- work areas of `best` and `back` cells and an output of `out` words are long enough
pub record Enough (bytes : List ℕ) (best back out : ℕ) : Type 0 where
  pub values : work_cells (limits_of bytes) ≤ best
  pub marks : work_cells (limits_of bytes) ≤ back
  pub words : length (phrase_of bytes).candidates * entry_words (limits_of bytes).units ≤ out

-- the entries of all candidates stand in the output, ranked; the work areas are zero bits; what is beyond is untouched
pub record Leaves (bytes : List ℕ) (best : List Float) (back out : List ℕ) (best' : List Float) (back' out' : List ℕ) : Type 0 where
  pub words : out' ≡ all_words (limits_of bytes).units (ranked (entries_of (phrase_of bytes)))
      ++ drop (length (phrase_of bytes).candidates * entry_words (limits_of bytes).units) out
  pub values : best' ≡ replicate (work_cells (limits_of bytes)) (of_bits binary64 0) ++ drop (work_cells (limits_of bytes)) best
  pub marks : back' ≡ replicate (work_cells (limits_of bytes)) 0 ++ drop (work_cells (limits_of bytes)) back
