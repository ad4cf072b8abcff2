use Rattle.std.proofs.Common.{◌≤◌, length}
use Rattle.evidence_tests.proofs.input.Numbers.mask.Given as goal

abbrev pub invariant-loop : goal.invariant-loop
invariant-loop l = l.len ≤ length l.cells
