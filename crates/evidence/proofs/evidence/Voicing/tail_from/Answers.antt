use Rattle.std.proofs.Common.{◌-◌, ◌≤◌, arith}
use Rattle.evidence.specs.CreakyTail.{tail_from}
use Rattle.evidence.proofs.Tail.{run_le}
use Rattle.evidence.proofs.evidence.Voicing.tail_from.Goals as goal

pub overflow_add-after : goal.overflow_add-after
overflow_add-after c =
    let within : c.run_from-run.result ≤ c.stop_of-stop.result - c.args.first = rw c.run_from-run.ensures (run_le _ _ _ _) in
    omega arith

pub returns : goal.returns
unfolding tail_from
returns c = rw (c.marked.ensures, c.is_some.ensures, c.run_from-run.ensures, c.stop_of-stop.ensures)
