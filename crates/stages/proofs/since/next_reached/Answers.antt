-- No boundary before the walk's place is reached.
use Rattle.std.proofs.Common.{arith, sym}
use Rattle.laws.proofs.Range.{first_passes, none_passes}
use Rattle.paths.specs.Inner.Ranges.{arrives_from}
use Rattle.stages.specs.Ranges.{entry_of}
use Rattle.stages.proofs.since.next_reached.Goals as goal

pub returns-then-from-end : goal.returns-then-from-end
returns-then-from-end c =
    let a = c.args in
    sym
    (first_passes a.n (arrives_from (entry_of a.low.now) (entry_of a.ends.now) a.from) 0 a.n c.loop-j.j (omega arith) (omega arith)
    (λ k _ h. c.loop-j.invariant k h) c.if-from-end.true)

pub returns : goal.returns
returns c =
    let a = c.args in
    sym
    (none_passes a.n (arrives_from (entry_of a.low.now) (entry_of a.ends.now) a.from) 0 a.n (λ k _ h. c.loop-j.invariant k (omega arith)))
