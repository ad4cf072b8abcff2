-- Each turn writes the next entry, up to the table's end.
use Rattle.std.proofs.Common.{arith}
use Rattle.laws.proofs.Filling.{filling_none, filling_more}
use Rattle.stages.proofs.Written.{filling_whole}
use Rattle.stages.proofs.tables.write_each.Goals as goal

pub loop-j-init : goal.loop-j-init
loop-j-init g c = λ f is. filling_none (omega arith)

pub loop-j-preserved : goal.loop-j-preserved
loop-j-preserved g c = λ f is. filling_more (c.loop-j.invariant f is) (omega arith) (is c.loop-j.j c.entry.result (omega arith) c.entry.ensures)

pub returns : goal.returns
returns g c = λ f is. filling_whole (c.loop-j.invariant f is) (omega arith)
