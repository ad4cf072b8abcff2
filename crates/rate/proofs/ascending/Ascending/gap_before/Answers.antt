use Rattle.std.proofs.Common.{arith, sym, subst}
use Rattle.rate.specs.Rate.{gaps}
use Rattle.rate.specs.Place.{FoundAt}
use Rattle.rate.proofs.NextSmaller.{same_before, smaller_before}
use Rattle.rate.proofs.ascending.Ascending.gap_before.Goals as goal

pub returns-then-gaps_below-place : goal.returns-then-gaps_below-place
returns-then-gaps_below-place c = same_before (gaps c.args.self.now.frames.now) _ _ c.requires.0 c.requires.1.stands (omega arith)

pub returns-else-gaps_below-place : goal.returns-else-gaps_below-place
returns-else-gaps_below-place c =
    let gs = gaps c.args.self.now.frames.now in
    subst (FoundAt gs _) (sym c.largest_below.ensures) (smaller_before gs _ _ c.requires.0 c.requires.1.stands (omega arith))
