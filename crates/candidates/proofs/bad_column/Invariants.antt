-- No column below `j` is one that the scores lack.
use Rattle.std.proofs.Common.{false, ◌≡◌, ℕ}
use lib.Dec.{leb}
use Rattle.record.specs.Below.{any_below}
use Rattle.record.specs.Conditions.{column_at}
use Rattle.candidates.proofs.bad_column.Given as goal

abbrev pub invariant-loop-j : goal.invariant-loop-j
invariant-loop-j l = any_below (λ (j : ℕ). leb l.columns (column_at l.list.limits l.list.bytes.now l.list.at l.i j)) l.j ≡ false
