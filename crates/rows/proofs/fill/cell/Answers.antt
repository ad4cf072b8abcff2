-- proofs/Kept.antt has what the cell rule keeps.
use Rattle.std.proofs.Common.{◌∙◌, arith}
use Rattle.rows.proofs.Kept.{end_is, middle_inside, unit_read, cell_gap, cell_units, cell_both}
use Rattle.rows.proofs.fill.cell.Goals as goal

pub returns-then-end-low : goal.returns-then-end-low
returns-then-end-low c =
    let a = c.args in
    let i = a.inputs.now in
    let p = c.requires.in_bounds in
    cell_gap i a.j p.2 a.best.now p.0 a.before a.since a.last p.1 c.requires.begins c.max-low.result c.at-end.result c.max-low.ensures
    (c.at-end.ensures ∙ end_is i a.j p.2) c.if-end-low.true _ (omega arith)

pub arrived-kept-requires : goal.arrived-kept-requires
arrived-kept-requires c =
    let a = c.args in
    let i = a.inputs.now in
    let p = c.requires.in_bounds in
    let to = c.at-end.ensures ∙ end_is i a.j p.2 in
    record {
      in_bounds = (p.2, c.if-end-low.false, rw to (middle_inside i a.j p.2));
      by_index = unit_read i a.j p.2 a.best.now p.0 c.max-low.result c.at-end.result (omega (arith, c.max-low.ensures)) to;
    }

pub returns-then-since-j : goal.returns-then-since-j
returns-then-since-j c =
    let a = c.args in
    let i = a.inputs.now in
    let p = c.requires.in_bounds in
    rw (c.or.ensures, c.arrived-kept.ensures)
    (cell_both i a.j p.2 a.best.now p.0 a.before a.since a.last p.1 c.requires.begins c.max-low.result c.at-end.result
    c.max-low.ensures (c.at-end.ensures ∙ end_is i a.j p.2) c.if-end-low.false c.if-since-j.true _ (omega arith))

pub returns-else-since-j : goal.returns-else-since-j
returns-else-since-j c =
    let a = c.args in
    let i = a.inputs.now in
    let p = c.requires.in_bounds in
    rw c.arrived-kept.ensures
    (cell_units i a.j p.2 a.best.now p.0 a.before a.since a.last p.1 c.requires.begins c.max-low.result c.at-end.result
    c.max-low.ensures (c.at-end.ensures ∙ end_is i a.j p.2) c.if-end-low.false c.if-since-j.false)
