use Rattle.std.proofs.Common.{◌&&◌, ap₂}
use borrow.Author.Tests.{le-leb, lt-leb}
use Rattle.evidence.specs.Joins.{joined}
use Rattle.evidence.proofs.joins.is_joined.Goals as goal

pub returns-then-edge-lt-REACH : goal.returns-then-edge-lt-REACH
unfolding joined
returns-then-edge-lt-REACH c = rw (lt-leb _ _ c.if-edge-lt-REACH.true)

pub returns-then-voice-edge : goal.returns-then-voice-edge
unfolding joined
returns-then-voice-edge c = rw (le-leb _ _ c.if-edge-lt-REACH.false, lt-leb _ _ c.if-voice-edge.true)

pub returns : goal.returns
unfolding joined
returns c =
    rw (le-leb _ _ c.if-edge-lt-REACH.false, le-leb _ _ c.if-voice-edge.false) (ap₂ ◌&&◌ c.all_marked.ensures c.all_marked-2.ensures)
