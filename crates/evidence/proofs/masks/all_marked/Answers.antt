use Rattle.std.proofs.Common.{◌+◌, refl, ◌∙◌, arith, rules, tests}
use Rattle.std.proofs.lemmas.Iterator.{YieldsList-from_range}
use Rattle.std.proofs.lemmas.Iterator.Search.{all_from_yields_List}
use Rattle.evidence.specs.Masks.{marked}
use Rattle.evidence.proofs.Chains.{all_listed}
use Rattle.evidence.proofs.masks.all_marked.Goals as goal

pub returns : goal.returns
returns c =
    let mask = c.args.mask.now in
    let first = c.args.first in
    let count = c.args.count in
    all_from_yields_List (marked mask) _ _ c.all.result c.all.ensures.ran (YieldsList-from_range first (first + count) count refl (omega arith)) (λ x b q k. search (rules, tests))
    ∙ all_listed mask first count
