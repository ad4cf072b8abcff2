use Rattle.std.proofs.Common.{◌*◌, arith, length}
use Rattle.text.proofs.Putting.{goes_on, done}
use Rattle.printing.specs.Rendered.{unit_line_bytes}
use Rattle.printing.proofs.Turns.{units_turn, units_end}
use Rattle.printing.proofs.lines.put_units.Goals as goal

pub put_unit-requires : goal.put_unit-requires
put_unit-requires c = omega (arith, c.loop-start.invariant.1.long)

pub loop-start-preserved : goal.loop-start-preserved
loop-start-preserved c =
    let line = c.put_unit.ensures in
    (omega (arith, line.puts.after, line.puts.short), goes_on c.loop-start.invariant.1 (units_turn c.args.units.now c.loop-start.start-index c.loop-start-test.true) line)

pub returns : goal.returns
returns c =
    done {m = unit_line_bytes * length c.args.units.now} c.loop-start.invariant.1
    (units_end c.args.units.now c.loop-start.start-index c.loop-start-test.false) (omega arith)
