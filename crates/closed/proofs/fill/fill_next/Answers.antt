-- proofs/Filling.antt has the part that is lent.
use Rattle.std.proofs.Common.{◌*◌, arith}
use Rattle.rows.specs.Inputs.{tables_by}
use Rattle.closed.proofs.Parts.{part_length}
use Rattle.closed.proofs.Filling.{next_lent, next_row}
use Rattle.closed.proofs.fill.fill_next.Goals as goal

pub fill_row-requires-clause-n_in_bounds : goal.fill_row-requires-clause-n_in_bounds
fill_row-requires-clause-n_in_bounds c =
    let a = c.args in
    let n = a.inputs.now.n in
    let p = c.requires.n_in_bounds in (
      omega (arith, part_length (a.s * n) a.best.now, p.0),
      omega (arith, part_length (a.s * n) a.back.now, p.1),
      next_lent a.best.now a.back.now n a.s p.0 p.1 p.3,
    )

pub returns : goal.returns
returns c =
    let a = c.args in
    let p = c.requires.n_in_bounds in
    rw (← c.at-before.ensures)
    (next_row a.best.now a.back.now a.inputs.now.n a.s p.0 p.1 (tables_by a.inputs.now) c.at-before.result
    c.fill_row.new.best c.fill_row.new.back c.fill_row.ensures)
