use Rattle.std.specs.Float.{binary64}
use Rattle.ieee.proofs.PatternRange.{nonpositive_test}
use Rattle.ieee.proofs.range.nonpositive64.Goals as goal

pub returns : goal.returns
returns c = nonpositive_test binary64 c.args.limit c.requires c.args.bits
