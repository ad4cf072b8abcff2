-- Reading gives no words back.
use Rattle.std.proofs.Common.{◌≤◌, length}
use Rattle.record_tests.proofs.Case.change.Given as goal

abbrev pub invariant-loop : goal.invariant-loop
invariant-loop l = length l.words.left.now ≤ length l.initial.words.left.now
