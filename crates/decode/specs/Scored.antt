-- An entry as the code holds it before it goes to its rank.
use Rattle.std.specs.Prelude.{ℕ, List, ◌≡◌, Float}
use Rattle.ieee.specs.Inner.Conversions.{ClampedLog}
use Rattle.frames.specs.declared.unit.PlacedUnit.{PlacedUnit}
use Rattle.entries.specs.Entry.{Entry}
use Rattle.entries.specs.Inner.EntryFrom.{entry_from, Writable}
use Rattle.entries.specs.declared.words.EntryHead.{EntryHead}

-- The head of an entry with this id, pass and score. "llr: the sum clamped to ±1,000,000, then nearest-even to f32."
pub record HeadOf (id pass : ℕ) (total : Float) (head : EntryHead) : Type 0 where
  pub named : head.id ≡ id
  pub numbered : head.pass ≡ pass
  pub summed : head.total ≡ total
  pub clamped : ClampedLog head.total head.llr

-- The head and the units say this entry, and can be written in words with room for so many units.
pub record ScoredAs (most : ℕ) (entry : Entry) (head : EntryHead) (units : List PlacedUnit) : Type 0 where
  pub whole : entry_from head units ≡ entry
  pub writable : Writable most head units
