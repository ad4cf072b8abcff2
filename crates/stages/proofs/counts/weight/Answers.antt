-- The weight of a frame is decided by the one test on its byte.
use Rattle.std.proofs.Common.{arith}
use Rattle.std.proofs.lemmas.Grind.{common_steps}
use Rattle.paths.specs.Frames.{weight}
use Rattle.stages.proofs.counts.weight.Goals as goal

pub returns : goal.returns
unfolding weight
returns c = grind (arith, common_steps)
