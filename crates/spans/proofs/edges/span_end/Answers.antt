use Rattle.std.proofs.Common.{sym, arith}
use Rattle.frames.proofs.Neighbours.{lowest}
use Rattle.spans.proofs.edges.span_end.Goals as goal

pub cut-requires : goal.cut-requires
cut-requires c = let near = lowest _ _ (sym c.in-Some.ensures) in omega (arith, near.from)
