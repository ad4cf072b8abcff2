use Rattle.std.proofs.Common.{sym, arith}
use Rattle.frames.proofs.Neighbours.{highest}
use Rattle.spans.proofs.edges.span_start.Goals as goal

pub overflow_add-left : goal.overflow_add-left
overflow_add-left c = let near = highest _ _ (sym c.in-Some.ensures) in omega (arith, near.below, c.ranges.frame.fits)

pub cut-requires : goal.cut-requires
cut-requires c = let near = highest _ _ (sym c.in-Some.ensures) in omega (arith, near.below)
