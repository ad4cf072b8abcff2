use Rattle.std.proofs.Common.{◌≡◌, ◌-◌, ◌≤◌}
use Rattle.rows.specs.Ways.{or_each}
use Rattle.rows.specs.Reads.{unit_way}
use Rattle.rows.proofs.units.units_from.Given as goal

abbrev pub invariant-loop-origin : goal.invariant-loop-origin
invariant-loop-origin l =
    let way = unit_way l.best l.tables l.to l.score in
    let left = l.origin-iterator in
    let origins = l.fn.origins in
    (origins.start ≤ left.start) × (left.end ≡ origins.end)
    × (or_each way l.kept left.start (left.end - left.start) ≡ or_each way l.fn.so_far origins.start (origins.end - origins.start))
