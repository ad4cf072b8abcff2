-- The entry that a caller hands over: a head, and its units.
use Rattle.std.specs.Prelude.{ℕ, ◌≤◌, not, List, T, length, map, unwrap_or}
use Rattle.std.specs.Float.Ieee.{is_nan}
use Rattle.limits.specs.Capacity.{most_units}
use Rattle.limits.specs.Common.{absent}
use Rattle.frames.specs.declared.unit.PlacedUnit.{PlacedUnit}
use Rattle.entries.specs.Entry.{ReportedUnit, Entry}
use Rattle.entries.specs.declared.words.EntryHead.{EntryHead}

-- a unit as an entry reports it
abbrev pub unit_from : PlacedUnit → ReportedUnit
unit_from unit = record { start = unit.span.start; end = unit.span.end; row = unwrap_or unit.row absent }

-- The entry that a head and some units make.
abbrev pub entry_from : EntryHead → List PlacedUnit → Entry
entry_from head units = record {
  id = head.id;
  pass = head.pass;
  total = head.total;
  llr = head.llr;
  units = map unit_from units;
}

-- What is asked of an entry that is to be written in words with room for so many units: its units have room, and neither its llr nor its
-- total is a NaN.
pub record Writable (most : ℕ) (head : EntryHead) (units : List PlacedUnit) : Type 0 where
  pub room : most ≤ most_units
  pub few : length units ≤ most
  pub number : T (not (is_nan head.llr))
  pub total_number : T (not (is_nan head.total))
