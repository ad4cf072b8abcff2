-- A count of units is a small number.
use Rattle.std.proofs.Common.{Some, Ok, arith}
use mir.Syntax.{w32}
use mir.Facts.{to_z_pos}
use Rattle.tikuwero.proofs.Limits.{units_within}
use Rattle.tikuwero.proofs.tikuwero_most_units.Goals as goal

pub overflow_cast-result : goal.overflow_cast-result
overflow_cast-result c = let few = units_within (rw c.in-Ok-Some.field-0-is at c.in-Ok-Some.ensures) in record { sfits = omega arith }

pub returns-in-Ok-Some : goal.returns-in-Ok-Some
returns-in-Ok-Some c = record {
  answer = Ok (Some c.in-Ok-Some.units);
  answers = rw (← c.stage_named.ensures, ← c.strictness_named.ensures) (rw c.in-Ok-Some.field-0-is at c.in-Ok-Some.ensures);
  number = to_z_pos w32 (overflow_cast-result c).sfits;
}
