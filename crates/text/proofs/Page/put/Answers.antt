use Rattle.std.proofs.Common.{refl, arith}
use Rattle.text.proofs.Putting.{in_parts, copied}
use Rattle.text.proofs.Page.put.Goals as goal

pub returns : goal.returns
returns c =
    copied (grind (arith, in_parts)) (λ j within. grind (arith, in_parts)) (λ j before. grind (arith, in_parts)) (λ j behind. grind (arith, in_parts)) (omega arith) refl
    c.requires
