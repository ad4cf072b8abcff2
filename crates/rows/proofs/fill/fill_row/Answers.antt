-- proofs/Filling.antt has the row as it fills.
use Rattle.rows.proofs.Filling.{turned, filled-all}
use Rattle.rows.proofs.fill.fill_row.Goals as goal

pub loop-j-preserved : goal.loop-j-preserved
loop-j-preserved c =
    turned c.loop-j.invariant c.loop-j-test.true c.requires.n_in_bounds.0 c.requires.n_in_bounds.1
    c.cell-kept.result c.cell-kept.ensures c.value-last.result c.mark.result c.value-last.ensures c.mark.ensures

pub returns : goal.returns
returns c = filled-all c.loop-j.invariant c.loop-j-test.false c.requires.begins c.requires.n_in_bounds.2
