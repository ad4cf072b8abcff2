-- The page is the buffer, and so the buffer holds at last what was written on the page.
use Rattle.std.proofs.Common.{rules}
use Rattle.printing.proofs.Decoded.{rendered}
use Rattle.printing.proofs.render.render.Goals as goal

pub returns : goal.returns
returns c = rendered (search rules) c.requires c.put_listing.ensures.puts
