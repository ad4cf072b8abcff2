use Rattle.std.proofs.Common.{◌-◌, ◌∙◌, refl, rules, tests}
use Rattle.std.specs.List.{range_with_len}
use Rattle.std.proofs.lemmas.Iterator.{YieldsList-from_range}
use Rattle.std.proofs.lemmas.Iterator.Consumers.{count_from_yields_List}
use Rattle.std.proofs.lemmas.Iterator.Search.{YieldsList-from_take_while}
use Rattle.std.proofs.lemmas.List.Folds.{length-prefix_len}
use Rattle.evidence.specs.CreakyTail.{in_tail}
use Rattle.evidence.proofs.Chains.{run_listed}
use Rattle.evidence.proofs.evidence.Voicing.run_from.Goals as goal

pub returns : goal.returns
returns c =
    let pitched = c.args.self.pitched.now in
    let vowel = c.args.self.vowel_speech.now in
    let first = c.args.first in
    let n = c.args.stop - first in
    count_from_yields_List c.take_while.result _ c.count.ensures.ran (YieldsList-from_take_while _ (in_tail pitched vowel) (YieldsList-from_range first c.args.stop n c.take_while.ensures.source refl) c.take_while.ensures.closure c.take_while.ensures.done (λ x b q k. search (rules, tests)))
    ∙ length-prefix_len (in_tail pitched vowel) (range_with_len first n)
    ∙ run_listed pitched vowel first n
