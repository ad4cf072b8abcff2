use Rattle.std.proofs.Common.{◌≡◌, ◌-◌, max, drop}
use Rattle.rate.specs.Rate.{gaps}
use Rattle.rate.specs.Inner.Largest.{largest_below}
use Rattle.rate.proofs.ascending.Ascending.largest_below.Given as goal

abbrev pub invariant-loop-i : goal.invariant-loop-i
invariant-loop-i l = largest_below l.limit (gaps l.self.frames.now) ≡ max l.largest (largest_below l.limit (gaps (drop (l.i - 1) l.self.frames.now)))
