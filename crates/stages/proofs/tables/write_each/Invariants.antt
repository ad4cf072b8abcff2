use Rattle.std.proofs.Common.{◌≡◌, ℕ, ◌<◌, length}
use Rattle.laws.proofs.Filling.{Filling}
use Rattle.stages.proofs.tables.write_each.Given as goal

abbrev pub invariant-loop-j : goal.invariant-loop-j
invariant-loop-j g l =
    (f : ℕ → _) → ((j : ℕ) (x : _) → j < length l.initial.table → goal.F-post g l.entry j x → x ≡ f j) →
    Filling f (length l.initial.table) l.initial.table l.table l.j
