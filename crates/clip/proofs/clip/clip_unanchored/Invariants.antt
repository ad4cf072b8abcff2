-- The spans of the units passed are reported, the others follow from the units as they were, and every row stays.
use Rattle.std.proofs.Common.{◌≡◌, ◌++◌, map, take, drop, length}
use Rattle.clip.specs.Clip.{report_after, reported}
use Rattle.clip.specs.Inner.Units.{placed}
use Rattle.clip.proofs.clip.clip_unanchored.Given as goal

abbrev pub invariant-loop-s : goal.invariant-loop-s
invariant-loop-s l = record {
  long : length l.units ≡ length l.initial.units;
  spans : map (λ unit. unit.span) (take l.s l.units) ++ report_after l.low (map placed (drop l.s l.units)) ≡ reported (map placed l.initial.units);
  rows : map (λ unit. unit.row) l.units ≡ map (λ unit. unit.row) l.initial.units;
}
