use Rattle.std.proofs.Common.{◌+◌, ◌≤◌, length}
use Rattle.laws.proofs.Filling.{Filling}
use Rattle.stages.specs.Places.{place_before}
use Rattle.stages.proofs.anchors.place_boundaries.Given as goal

abbrev pub invariant-loop-j : goal.invariant-loop-j
invariant-loop-j l =
    Filling (place_before l.frames l.bounds) (length l.bounds + 1) l.initial.places l.places l.j × (l.place ≤ place_before l.frames l.bounds l.j)
