use Rattle.std.proofs.Common.{◌+◌, ◌≤◌, ◌<◌}
use Rattle.rate.specs.Rate.{below, gaps}
use Rattle.rate.proofs.ascending.Ascending.gap_at.Given as goal

abbrev pub invariant-loop-range : goal.invariant-loop-range
invariant-loop-range l =
    record {
      within : l.low + l.range ≤ l.most;
      smaller : below l.low (gaps l.self.frames.now) ≤ l.place;
      no_larger : l.place < below (l.low + l.range + 1) (gaps l.self.frames.now);
    }

abbrev pub decreases-loop-range : goal.decreases-loop-range
decreases-loop-range l = l.range
