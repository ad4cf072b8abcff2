use Rattle.std.proofs.Common.{◌≡◌, ◌+◌, ◌-◌, ◌*◌, ap, ◌∙◌, get_or, arith}
use Rattle.std.proofs.lemmas.Grind.{common_steps}
use Rattle.record.proofs.Numbers.{number_in}
use Rattle.record.proofs.bytes.numbers_at.Goals as goal

pub returns-clause-number : goal.returns-clause-number
returns-clause-number g c = λ i d h.
    let long : c.args.at + g.row.N * c.args.count - c.args.at ≡ g.row.N * c.args.count = omega arith in
    ap (λ xs. get_or xs i d) c.as_chunks.ensures.front ∙ number_in _ _ _ c.args.count _ _ i d long (grind (arith, common_steps)) h
