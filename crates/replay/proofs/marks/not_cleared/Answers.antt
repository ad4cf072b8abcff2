use Rattle.std.proofs.Common.{rules, not, ◌∙◌}
use Rattle.std.proofs.lemmas.Iterator.{YieldsList-from_slice}
use Rattle.std.proofs.lemmas.Iterator.Consumers.{YieldsList-from_enumerate}
use Rattle.std.proofs.lemmas.Iterator.Search.{any_from_yields_List}
use Rattle.replay.specs.Marks.{zero_or_mark}
use Rattle.replay.proofs.Cells.{any_enumerated}
use Rattle.replay.proofs.marks.not_cleared.Goals as goal

pub returns : goal.returns
returns g c =
    any_from_yields_List (λ p. not (g.T.Cell.same p.1 (zero_or_mark g.T.Cell.ZERO g.T.Cell.MARK c.args.count p.0))) _ _ _ c.any.ensures.ran
    (YieldsList-from_enumerate (YieldsList-from_slice c.args.cells.now (cc)) (cc))
    (λ x b q k. search rules)
    ∙ any_enumerated (λ i cell. not (g.T.Cell.same cell (zero_or_mark g.T.Cell.ZERO g.T.Cell.MARK c.args.count i))) g.T.Cell.past c.args.cells.now
