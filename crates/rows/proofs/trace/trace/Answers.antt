-- proofs/Tracing.antt has the steps back.
use Rattle.std.proofs.Common.{[], sym, arith}
use mathlib.Core.List.{append-nil}
use Rattle.rows.proofs.Tracing.{none-stored, gap_back, crossed-back, unit-back, united-back, units_there}
use Rattle.rows.proofs.trace.trace.Goals as goal

pub loop-units-init : goal.loop-units-init
loop-units-init c =
    let traced = c.requires.traceable in
    record {
      units = traced.0;
      whole = traced.1;
      rest = traced.0;
      stored = [];
      traced = traced.1;
      split = sym (append-nil traced.0);
      filled = none-stored c.args.k c.requires.k_le_most_units.0;
      row = omega arith;
      place = c.requires.k_le_most_units.3;
    }

pub returns-in-Start : goal.returns-in-Start
returns-in-Start c = units_there c.loop-units.invariant c.in-Start.ensures

pub loop-units-smaller-in-Gap : goal.loop-units-smaller-in-Gap
loop-units-smaller-in-Gap c = omega (arith, (gap_back c.loop-units.invariant c.in-Gap.ensures).1)

pub loop-units-preserved-in-Gap : goal.loop-units-preserved-in-Gap
loop-units-preserved-in-Gap c = crossed-back c.loop-units.invariant c.in-Gap.ensures

pub overflow_sub-s : goal.overflow_sub-s
overflow_sub-s c = omega (arith, (unit-back c.loop-units.invariant c.in-Unit.ensures).is_row)

pub loop-units-preserved : goal.loop-units-preserved
loop-units-preserved c = united-back c.loop-units.invariant c.in-Unit.ensures _ (omega arith)
