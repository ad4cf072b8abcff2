-- Its parts, one after the other.
use Rattle.text.proofs.Putting.{then}
use Rattle.printing.specs.Inner.InWords.{name_text}
use Rattle.printing.proofs.lines.put_name.Goals as goal

pub returns : goal.returns
unfolding name_text
returns c = then (then (then c.put.ensures c.put_decimal.ensures) c.put-2.ensures) c.put_hexadecimal.ensures
