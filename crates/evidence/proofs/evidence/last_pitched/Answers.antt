use Rattle.std.proofs.Common.{sym, ◌∙◌}
use Rattle.evidence.proofs.Tail.{last_here, last_before_law, last_none}
use Rattle.evidence.proofs.evidence.last_pitched.Goals as goal

pub returns-then-marked : goal.returns-then-marked
returns-then-marked c = sym (c.loop-frame.invariant ∙ last_here _ _ _ c.loop-frame-test.true (sym c.if-marked.ensures))

pub loop-frame-preserved : goal.loop-frame-preserved
loop-frame-preserved c = c.loop-frame.invariant ∙ last_before_law _ _ _ c.loop-frame-test.true (sym c.if-marked.ensures)

pub returns : goal.returns
returns c = sym (c.loop-frame.invariant ∙ last_none _ _ _ c.loop-frame-test.false)
