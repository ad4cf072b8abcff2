use Rattle.std.proofs.Common.{Bool, ◌||◌, false, ◌∙◌, rules, tests}
use Rattle.std.proofs.lemmas.Iterator.{YieldsList-from_slice}
use Rattle.std.proofs.lemmas.Iterator.Consumers.{fold_from_yields_List}
use Rattle.laws.proofs.Lists.{any_folded}
use Rattle.figures.proofs.any_bad.Goals as goal

pub returns : goal.returns
returns g c = λ test same.
    fold_from_yields_List _ (λ (found : Bool) (number : _). found || test number) false c.fold.result c.fold.ensures.ran (YieldsList-from_slice c.args.numbers.now cc) (λ a x b q k. search (rules, tests, same))
    ∙ any_folded test c.args.numbers.now
