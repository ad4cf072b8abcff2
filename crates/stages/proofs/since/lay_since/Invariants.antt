use Rattle.std.proofs.Common.{◌≤◌, ◌≡◌, length}
use Rattle.laws.proofs.Filling.{Filling}
use Rattle.paths.specs.Inner.Ranges.{first_reached}
use Rattle.stages.specs.Ranges.{entry_of}
use Rattle.stages.proofs.since.lay_since.Given as goal

abbrev pub invariant-loop-first : goal.invariant-loop-first
invariant-loop-first l =
    Filling (first_reached (entry_of l.low) (entry_of l.ends) l.n) (length l.initial.since) l.initial.since l.since l.first-index ×
    (l.reached ≡ first_reached (entry_of l.low) (entry_of l.ends) l.n l.first-index) × (l.reached ≤ l.n)
