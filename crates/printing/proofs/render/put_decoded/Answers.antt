-- Its parts, one after the other.
use Rattle.text.proofs.Putting.{then}
use Rattle.printing.specs.Inner.InWords.{decoded_in}
use Rattle.printing.proofs.render.put_decoded.Goals as goal

pub returns : goal.returns
unfolding decoded_in
returns c = then (then (then c.put.ensures c.put_decimal.ensures) c.put-2.ensures) c.put_entries.ensures
