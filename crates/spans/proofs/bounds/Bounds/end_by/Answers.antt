use Rattle.std.proofs.Common.{ℕ, Option, unwrap_or, max, sym, ap, ◌∙◌, arith}
use Rattle.std.proofs.Math.Nat.{le_refl}
use Rattle.spans.proofs.Splits.{lowest_or}
use Rattle.spans.proofs.bounds.Bounds.end_by.Goals as goal

pub returns : goal.returns
returns c =
    let bounds = c.args.self.now.boundaries.now in
    let beyond = max c.args.self.now.hi_edge c.args.next in
    c.unwrap_or.ensures ∙ ap (unwrap_or c.copied.result) {y = beyond} (omega arith)
    ∙ ap (λ (o : Option ℕ). unwrap_or o beyond) c.copied.ensures
    ∙ c.get.ensures.lookup.4 (le_refl _) beyond
    ∙ sym (lowest_or c.args.next bounds c.requires.0 c.args.past c.requires.1 beyond)
