-- A nucleus is kept exactly where some listed one is within the mask.
use Rattle.std.proofs.Common.{rules, tests, arith, ◌∙◌}
use Rattle.std.proofs.lemmas.Bool.Decides.{nat_tests}
use Rattle.std.proofs.lemmas.Iterator.{YieldsList-from_slice}
use Rattle.std.proofs.lemmas.Iterator.Search.{any_from_yields_List}
use Rattle.paths.specs.Frames.{within_mask}
use Rattle.stages.proofs.Kept.{some_kept}
use Rattle.stages.proofs.anchors.has_nucleus.Goals as goal

pub returns : goal.returns
returns c =
    let inside = within_mask c.args.mask.now in
    let listed = YieldsList-from_slice c.args.nuclei.now c.iter.ensures.rest in
    let found = any_from_yields_List inside _ _ _ c.any.ensures.ran listed (λ x b q k. search (rules, tests)) in
    grind (arith, nat_tests, found ∙ some_kept c.args.mask.now 0 c.args.nuclei.now)
