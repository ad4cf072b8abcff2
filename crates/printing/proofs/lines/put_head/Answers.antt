-- Its parts, one after the other.
use Rattle.text.proofs.Putting.{then}
use Rattle.printing.specs.Listing.{head_line}
use Rattle.printing.specs.Inner.InWords.{name_text}
use Rattle.printing.proofs.lines.put_head.Goals as goal

pub returns : goal.returns
unfolding head_line name_text
returns c =
    let found = then (then c.put_name.ensures c.put.ensures) c.put_pass.ensures in
    then (then (then found c.put-2.ensures) c.put_decimal.ensures) c.put-3.ensures
