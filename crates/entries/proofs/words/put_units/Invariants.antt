-- The words of the units passed stand in front.
use Rattle.std.proofs.Common.{◌≡◌, ◌++◌, ◌*◌, map, take, drop}
use Rattle.entries.specs.Words.{unit_words}
use Rattle.entries.specs.Inner.EntryFrom.{unit_from}
use Rattle.entries.proofs.words.put_units.Given as goal

abbrev pub invariant-loop-i : goal.invariant-loop-i
invariant-loop-i l = l.out ≡ unit_words (map unit_from (take l.i l.units)) ++ drop (3 * l.i) l.initial.out
