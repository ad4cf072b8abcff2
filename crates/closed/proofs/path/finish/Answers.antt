-- proofs/Chosen.antt has what the rows hold.
use Rattle.std.proofs.Common.{arith}
use Rattle.std.proofs.lemmas.List.{ext_get_or}
use Rattle.rows.specs.Traced.{no_bounds}
use Rattle.closed.proofs.Chosen.{traced, reports_chosen}
use Rattle.closed.proofs.path.finish.Goals as goal

pub trace-units-requires : goal.trace-units-requires
trace-units-requires c =
    let a = c.args in
    let p = c.requires.k_le_most_units in
    let some = c.requires.some_rows in
    let end = c.best_end-end in
    let led = traced some.0 a.k a.n a.stop.now a.best.now a.back.now some.1 some.2 a.since some.3 end.result (end.ensures some.0 some.1) in
    record { k_le_most_units = (p.0, p.1, p.3, led.0); traceable = led.1 }

pub returns-clause-reports : goal.returns-clause-reports
returns-clause-reports c =
    let a = c.args in
    let end = c.best_end-end in
    let units = c.trace-units in
    λ q stops all reach. reports_chosen q a.k a.n a.stop.now a.best.now a.back.now stops all a.since reach
    end.result (end.ensures q stops) units.result units.ensures _ (ext_get_or no_bounds _ _ (omega arith) (grind arith))
