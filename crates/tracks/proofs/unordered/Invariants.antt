use Rattle.std.proofs.Common.{◌≡◌, ◌-◌, ◌+◌, ◌≤◌, max, length, leb}
use Rattle.record.specs.Below.{any_below}
use Rattle.record.specs.Conditions.{frame_at}
use Rattle.tracks.proofs.unordered.Given as goal

abbrev pub invariant-loop-i : goal.invariant-loop-i
invariant-loop-i l =
    (l.i ≤ max 1 (length l.frames)) × (l.bad ≡ any_below (λ k. leb (frame_at l.fn.bytes l.fn.s (k + 1)) (frame_at l.fn.bytes l.fn.s k)) (l.i - 1))
