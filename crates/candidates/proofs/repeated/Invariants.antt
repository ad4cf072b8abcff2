-- No candidate below `j` has the same id.
use Rattle.std.proofs.Common.{false, ◌≡◌, ℕ}
use lib.Dec.{eqb}
use Rattle.record.specs.Below.{any_below}
use Rattle.record.specs.Conditions.{id_at}
use Rattle.candidates.proofs.repeated.Given as goal

abbrev pub invariant-loop-j : goal.invariant-loop-j
invariant-loop-j l = any_below (λ (j : ℕ). eqb (id_at l.list.limits l.list.bytes.now l.list.at j) (id_at l.list.limits l.list.bytes.now l.list.at l.i)) l.j ≡ false
