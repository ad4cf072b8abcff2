use Rattle.std.proofs.Common.{arith}
use Rattle.std.proofs.lemmas.Grind.{common_steps}
use Rattle.paths.specs.Frames.{within_mask}
use Rattle.stages.proofs.anchors.within.Goals as goal

pub returns : goal.returns
unfolding within_mask
returns c = grind (arith, common_steps)
