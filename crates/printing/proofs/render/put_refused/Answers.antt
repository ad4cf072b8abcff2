-- Its parts, one after the other.
use Rattle.text.proofs.Putting.{then}
use Rattle.printing.specs.Listing.{refused_text}
use Rattle.printing.proofs.render.put_refused.Goals as goal

pub returns : goal.returns
unfolding refused_text
returns c = then (then c.put.ensures c.put_decimal.ensures) c.put-2.ensures
