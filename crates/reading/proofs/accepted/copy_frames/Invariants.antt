use Rattle.std.proofs.Common.{◌≡◌}
use Rattle.laws.specs.Inner.Tables.{written}
use Rattle.record.specs.Conditions.{frame_at}
use Rattle.reading.proofs.accepted.copy_frames.Given as goal

abbrev pub invariant-loop-i : goal.invariant-loop-i
invariant-loop-i l = l.out ≡ written (frame_at l.fn.bytes l.fn.s) l.i l.initial.out
