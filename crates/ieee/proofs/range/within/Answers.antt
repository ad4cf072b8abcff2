use Rattle.ieee.proofs.PatternRange.{within_test}
use Rattle.ieee.proofs.range.within.Goals as goal

pub returns : goal.returns
returns g c = rw c.magnitude.ensures (within_test g.P.Pattern.format c.args.limit c.requires (g.P.Pattern.number c.args.bits))
