-- A piece has eight bytes at least.
use Rattle.std.proofs.Common.{length}
use Rattle.replay.proofs.pieces.lay.Given as goal

abbrev pub decreases-loop-pieces : goal.decreases-loop-pieces
decreases-loop-pieces l = length l.pieces.left.now
