use Rattle.std.proofs.Common.{sym, ◌∙◌}
use Rattle.ieee.proofs.NarrowClamp.{lowest_is, clamped_nan, clamped_number_is}
use Rattle.ieee.proofs.convert.clamp.Goals as goal

pub returns-then-is_nan : goal.returns-then-is_nan
returns-then-is_nan c = lowest_is ∙ clamped_nan c.args.v (sym c.is_nan.ensures.value ∙ c.if-is_nan.true)

pub returns-else-is_nan : goal.returns-else-is_nan
returns-else-is_nan c = c.clamp.ensures.value ∙ clamped_number_is c.args.v (sym c.is_nan.ensures.value ∙ c.if-is_nan.false)
