-- What the two branches leave is what `with_origin` chooses.
use Rattle.std.proofs.lemmas.Bool.Decides.{nat_tests}
use Rattle.std.proofs.Common.{arith}
use Rattle.stages.specs.Ranges.{with_origin}
use Rattle.stages.proofs.ranges.add_origin.Goals as goal

pub returns : goal.returns
unfolding with_origin
returns c = grind (arith, nat_tests)
