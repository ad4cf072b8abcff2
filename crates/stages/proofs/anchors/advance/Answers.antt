-- What is passed is below the bound; the frame that stops the walk is not.
use Rattle.std.proofs.Common.{arith}
use Rattle.limits.specs.Common.{absent}
use Rattle.stages.proofs.Places.{is_below, not_below}
use Rattle.stages.proofs.anchors.advance.Goals as goal

pub returns-then-frames-at : goal.returns-then-frames-at
returns-then-frames-at c =
    omega (
      arith,
      not_below c.args.frames.now 0 absent c.args.bound c.loop-at.at c.requires.0 (omega arith) c.if-frames-at.true,
    )

pub loop-at-preserved : goal.loop-at-preserved
loop-at-preserved c =
    omega (
      arith,
      is_below c.args.frames.now 0 absent c.args.bound c.loop-at.at c.requires.0 (omega arith) c.if-frames-at.false,
    )
