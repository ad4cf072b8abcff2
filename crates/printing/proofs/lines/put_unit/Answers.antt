-- Its parts, one after the other.
use Rattle.text.proofs.Putting.{then}
use Rattle.printing.specs.Listing.{unit_line}
use Rattle.printing.proofs.lines.put_unit.Goals as goal

pub returns : goal.returns
unfolding unit_line
returns c =
    let span = then (then c.put_decimal.ensures c.put.ensures) c.put_decimal-2.ensures in
    then (then (then span c.put-2.ensures) c.put_row.ensures) c.put-3.ensures
