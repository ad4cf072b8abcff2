use Rattle.std.proofs.Common.{ℕ, ◌<◌, ◌≡◌, false}
use Rattle.paths.specs.Inner.Ranges.{arrives_from}
use Rattle.stages.specs.Ranges.{entry_of}
use Rattle.stages.proofs.since.next_reached.Given as goal

abbrev pub invariant-loop-j : goal.invariant-loop-j
invariant-loop-j l = (k : ℕ) → k < l.j → arrives_from (entry_of l.low) (entry_of l.ends) l.from k ≡ false
