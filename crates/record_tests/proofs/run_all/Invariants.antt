-- Each case is followed by fewer bytes.
use Rattle.std.proofs.Common.{length}
use Rattle.record_tests.proofs.run_all.Given as goal

abbrev pub decreases-loop-words : goal.decreases-loop-words
decreases-loop-words g l = length l.words.left.now
