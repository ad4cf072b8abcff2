use Rattle.std.proofs.Common.{rules}
use Rattle.std.proofs.lemmas.List.{length-map}
use Rattle.entries.specs.Inner.EntryFrom.{unit_from, entry_from}
use Rattle.entries.proofs.UnitStores.{stored_in_front}
use Rattle.entries.proofs.words.put_entry.Goals as goal

pub returns : goal.returns
returns c =
    let a = c.args in
    stored_in_front a.most (entry_from a.head a.units.now) a.out.now _ _ _ _ (length-map a.units.now unit_from) c.requires.writable.few (search rules)
    c.put_units.ensures (search rules)
