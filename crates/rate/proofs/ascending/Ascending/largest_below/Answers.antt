use Rattle.std.proofs.Common.{◌≡◌, ◌+◌, ◌-◌, arith}
use Rattle.std.proofs.lemmas.Bool.Decides.{nat_tests}
use Rattle.rate.proofs.GapWalk.{largest_here, largest_end}
use Rattle.rate.proofs.ascending.Ascending.largest_below.Goals as goal
use Rattle.rate.proofs.ascending.Ascending.largest_below.Goals.{then-gap-limit, else-gap-limit}

pub loop-i-preserved : goal.loop-i-preserved
loop-i-preserved c =
    let i = c.loop-i.i in
    let here = largest_here c.args.self.now.frames.now i c.args.limit c.loop-i.auto.i c.loop-i-test.true _ c.gap_to-gap.ensures in
    let next : i + 1 - 1 ≡ i = omega arith in
    rw next (elim c.if-gap-limit.branch [ then-gap-limit w ↦ grind (arith, nat_tests) | else-gap-limit w ↦ grind (arith, nat_tests) ])

pub returns : goal.returns
returns c =
    let end = largest_end c.args.self.now.frames.now c.loop-i.i c.args.limit c.loop-i-test.false in
    omega arith
