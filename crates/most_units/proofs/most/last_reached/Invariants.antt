use Rattle.std.proofs.Common.{◌<◌}
use Rattle.stages.specs.Tables.{entry_by}
use Rattle.most_units.proofs.most.last_reached.Given as goal

abbrev pub invariant-loop-units : goal.invariant-loop-units
invariant-loop-units l = entry_by l.since l.strictness l.units < l.n
