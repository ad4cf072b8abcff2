-- M is a small number.
use Rattle.std.proofs.Common.{ℕ, Ok, length, ap, ◌∙◌, arith}
use mir.Syntax.{w32}
use mir.Facts.{to_z_pos}
use Rattle.tikuwero.specs.Status.{status}
use Rattle.tikuwero.proofs.Limits.{entries_within}
use Rattle.tikuwero.proofs.tikuwero_decode.Goals as goal

pub overflow_cast-result : goal.overflow_cast-result
overflow_cast-result c =
    let a = c.args in
    let few = entries_within a.«record».now (length a.best.now) (length a.back.now) (length a.out.now) c.in-Ok.ensures.answered in
    record { sfits = omega arith }

pub returns-in-Ok : goal.returns-in-Ok
returns-in-Ok c = record {
  answer = Ok c.in-Ok.count;
  decodes = c.in-Ok.ensures;
  number = to_z_pos w32 (overflow_cast-result c).sfits ∙ ap (status (λ (entries : ℕ). entries)) c.in-Ok.ensures.answered;
}
