-- The front of the array is the stage's boundaries.
use Rattle.std.proofs.Common.{arith}
use Rattle.prepare.proofs.Lists.{copied_front}
use Rattle.prepare.proofs.Parts.{few_boundaries_law}
use Rattle.prepare.proofs.stage_read.StageRead.new.Goals as goal

pub boundaries-n-requires : goal.boundaries-n-requires
boundaries-n-requires c = omega (arith, few_boundaries_law c.args.accepted.now.laid c.args.which, c.told-bounds)

pub invariant_of-result : goal.invariant_of-result
invariant_of-result c = record { read = copied_front c.boundaries-n.ensures }
