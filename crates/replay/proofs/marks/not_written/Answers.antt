use Rattle.std.proofs.Common.{rules, ◌≡◌, not, eqb, ◌∙◌}
use Rattle.std.proofs.lemmas.Iterator.{YieldsList-from_slice}
use Rattle.std.proofs.lemmas.Iterator.Consumers.{YieldsList-from_enumerate}
use Rattle.std.proofs.lemmas.Iterator.Search.{any_from_yields_List}
use Rattle.replay.specs.Marks.{word_or_mark, unlike}
use Rattle.replay.proofs.Cells.{any_enumerated}
use Rattle.replay.proofs.marks.not_written.Goals as goal

pub returns-else-cells-count : goal.returns-else-cells-count
returns-else-cells-count c =
    let wanted = word_or_mark c.args.body.now c.args.count in
    let found : c.any.result ≡ unlike eqb 0 wanted c.args.cells.now =
    any_from_yields_List (λ p. not (eqb p.1 (wanted p.0))) _ _ _ c.any.ensures.ran
    (YieldsList-from_enumerate (YieldsList-from_slice c.args.cells.now (cc)) (cc))
    (λ x b q k. search rules)
    ∙ any_enumerated (λ i cell. not (eqb cell (wanted i))) 0 c.args.cells.now in
    search rules
