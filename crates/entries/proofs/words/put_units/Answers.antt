use Rattle.std.proofs.Common.{refl}
use Rattle.entries.specs.Words.{unit_words}
use Rattle.entries.proofs.UnitStores.{units_more}
use Rattle.entries.proofs.words.put_units.Goals as goal

pub loop-i-init : goal.loop-i-init
unfolding unit_words
loop-i-init c = refl

pub loop-i-preserved : goal.loop-i-preserved
loop-i-preserved c =
    units_more c.args.units.now c.loop-i.i c.unwrap_or-row.result _ c.args.out.now c.loop-i.out c.copy_from_slice.new.self c.loop-i-test.true c.loop-i.invariant
    c.unwrap_or-row.ensures c.copy_from_slice.ensures.after
