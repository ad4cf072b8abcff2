use Rattle.std.proofs.Common.{Bool, ℕ, ◌||◌, false, ltb, ap, ◌∙◌, rules, tests}
use Rattle.std.proofs.lemmas.Iterator.{YieldsList-from_slice}
use Rattle.std.proofs.lemmas.Iterator.Consumers.{fold_from_yields_List}
use Rattle.record.proofs.Below.{any_walked}
use Rattle.record.proofs.Numbers.{byte_of}
use Rattle.tracks.proofs.bad_mask.Goals as goal

pub returns : goal.returns
returns c =
    let mask = c.iter.result.rest.now in
    fold_from_yields_List _ (λ (bad : Bool) (byte : ℕ). bad || ltb 1 byte) false c.fold.result c.fold.ensures.ran (YieldsList-from_slice mask cc) (λ a x b q k. search (rules, tests))
    ∙ any_walked (ltb 1) _ 0 mask (search rules) (λ k h. ap (ltb 1) (search (rules, byte_of)))
