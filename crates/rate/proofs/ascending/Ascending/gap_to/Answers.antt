use Rattle.rate.proofs.GapWalk.{ascends_at}
use Rattle.rate.proofs.ascending.Ascending.gap_to.Goals as goal

pub overflow_sub-result-2 : goal.overflow_sub-result-2
overflow_sub-result-2 c = ascends_at _ _ c.args.self.now.in_order.ascends c.requires.0 c.requires.1
