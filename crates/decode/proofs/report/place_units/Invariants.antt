-- The units passed are placed.
use Rattle.std.proofs.Common.{◌≡◌, ◌++◌, map, take, drop}
use Rattle.decode.specs.Places.{place_of}
use Rattle.decode.proofs.report.place_units.Given as goal

abbrev pub invariant-loop-s : goal.invariant-loop-s
invariant-loop-s l = l.out ≡ map (place_of l.words) (take l.s l.path) ++ drop l.s l.initial.out
