use Rattle.std.proofs.Common.{◌≤◌, ◌≡◌, length, take}
use Rattle.paths.specs.Anchors.{kept_in}
use Rattle.limits.specs.Capacity.{anchor_room}
use Rattle.stages.specs.Kept.{Keeps}
use Rattle.stages.proofs.anchors.keep_anchors.Given as goal

abbrev pub invariant-loop-i : goal.invariant-loop-i
invariant-loop-i l =
    (l.count ≤ l.i) × Keeps (kept_in l.mask l.first_row (take l.i l.anchors)) l.count l.frames l.rows × (length l.frames ≡ anchor_room)
    × (length l.rows ≡ anchor_room)
