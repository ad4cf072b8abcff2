-- What is left gets shorter.
use Rattle.std.proofs.Common.{length}
use Rattle.listings.proofs.print_all.Given as goal

abbrev pub decreases-loop-len : goal.decreases-loop-len
decreases-loop-len g l = length l.left
