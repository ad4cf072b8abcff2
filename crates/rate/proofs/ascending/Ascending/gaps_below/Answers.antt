use Rattle.std.proofs.Common.{◌≡◌, ◌+◌, ◌-◌, arith}
use Rattle.std.proofs.lemmas.Bool.Decides.{nat_tests}
use Rattle.rate.proofs.GapWalk.{below_here, below_end}
use Rattle.rate.proofs.ascending.Ascending.gaps_below.Goals as goal

pub loop-i-preserved : goal.loop-i-preserved
loop-i-preserved c =
    let i = c.loop-i.i in
    let here = below_here c.args.self.now.frames.now i c.args.limit c.loop-i.auto.i c.loop-i-test.true _ c.gap_to.ensures in
    let next : i + 1 - 1 ≡ i = omega arith in
    record { few = grind (arith, nat_tests); counted = rw next (omega (arith, c.loop-i.invariant.counted, here, c.from-count.ensures)) }

pub returns : goal.returns
returns c =
    let end = below_end c.args.self.now.frames.now c.loop-i.i c.args.limit c.loop-i-test.false in
    omega arith
