use Rattle.std.proofs.Common.{◌≡◌, ◌+◌, ◌-◌, ◌<◌, drop}
use Rattle.rate.specs.Rate.{below, gaps}
use Rattle.rate.proofs.ascending.Ascending.gaps_below.Given as goal

abbrev pub invariant-loop-i : goal.invariant-loop-i
invariant-loop-i l =
    record {
      few : l.count < l.i;
      counted : below l.limit (gaps l.self.frames.now) ≡ l.count + below l.limit (gaps (drop (l.i - 1) l.self.frames.now));
    }
