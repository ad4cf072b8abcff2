use Rattle.std.proofs.Common.{rules}
use Rattle.spans.specs.Spans.{span_of}
use Rattle.spans.proofs.edges.span_of.Goals as goal

pub returns : goal.returns
unfolding span_of
returns c = search rules
