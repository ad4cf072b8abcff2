use Rattle.std.proofs.Common.{ℕ, length, ap, ◌∙◌, arith}
use mir.Syntax.{w32}
use mir.Facts.{to_z_pos}
use Rattle.frames.specs.Outcome.{Outcome}
use Rattle.spans.specs.Spans.{spans_of, words_of, written}
use Rattle.tikuwero.specs.Status.{status}
use Rattle.tikuwero.proofs.Limits.{spans_within}
use Rattle.tikuwero.proofs.tikuwero_tbu_spans.Goals as goal

pub overflow_cast-result : goal.overflow_cast-result
overflow_cast-result c =
    let a = c.args in
    let few = spans_within a.nuclei.now a.bounds.now a.lo_edge a.hi_edge (length a.out.now) c.in-Ok.ensures.answered in
    record { sfits = omega arith }

pub returns-in-Ok : goal.returns-in-Ok
returns-in-Ok c =
    let a = c.args in
    let told = c.in-Ok.ensures.answered in
    let words = words_of (spans_of a.nuclei.now a.bounds.now a.lo_edge a.hi_edge) in
    record {
      number = to_z_pos w32 (overflow_cast-result c).sfits ∙ ap (status (λ (spans : ℕ). spans)) told;
      output = c.in-Ok.ensures.output ∙ ap (λ (o : Outcome ℕ). written o words a.out.now) told;
    }
