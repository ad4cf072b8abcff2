-- The two loops: proofs/Origins.antt has their invariants and turns.
use Rattle.std.proofs.Common.{arith, sym}
use Rattle.paths.proofs.Frames.{increasing_le}
use Rattle.stages.proofs.Origins.{origins_begin, origins_end_law, targets_begin, targets_end, target_fails, target_taken, none_short, none_past, one_unit}
use Rattle.stages.proofs.ranges.lay_ranges.Goals as goal
use Rattle.stages.proofs.ranges.lay_ranges.Goals.{then-frames-ge-SHORTEST, else-frames-ge-SHORTEST, else-targets-test, then-targets-test+then-frames-to}

pub loop-i-init : goal.loop-i-init
loop-i-init g c = λ first second is. origins_begin c.args.bounds.now first second c.requires.fresh.1

pub targets-init : goal.targets-init
targets-init g c = λ first second is. targets_begin c.requires.fresh.0.ascending (c.loop-i.invariant first second is) c.loop-i-test.true

pub overflow_sub-frames : goal.overflow_sub-frames
overflow_sub-frames g c =
    increasing_le c.args.bounds.now c.requires.fresh.0.ascending c.loop-i.i c.targets.j (omega arith) (omega arith)

pub targets-preserved : goal.targets-preserved
targets-preserved g c = λ first second is.
    let a = c.args in
    let i = c.loop-i.i in
    let j = c.targets.j in
    let was = c.targets.invariant first second is in
    let ahead = is i c.ahead-anchor.result (omega arith) c.ahead-anchor.ensures in
    elim c.if-frames-ge-SHORTEST.branch [
      | then-frames-ge-SHORTEST w ↦
          rw (w.origins-is, w.add_origin.ensures, ahead.0)
          (target_taken was c.targets-test.true c.requires.fresh.0.short
          (one_unit a.bounds.now second i j (rw (sym ahead.1) c.if-frames-to.false) w.if-frames-ge-SHORTEST.true))
      | else-frames-ge-SHORTEST w ↦
          rw w.origins-is (target_fails was c.targets-test.true (none_short a.bounds.now second i j w.if-frames-ge-SHORTEST.false))
    ]

pub loop-i-preserved : goal.loop-i-preserved
loop-i-preserved g c = λ first second is.
    let a = c.args in
    let bounds = a.bounds.now in
    let ascending = c.requires.fresh.0.ascending in
    let i = c.loop-i.i in
    let j = c.targets.j in
    let ahead = is i c.ahead-anchor.result (omega arith) c.ahead-anchor.ensures in
    targets_end ascending (c.targets.invariant first second is)
    (elim c.targets-test.branch [
      | else-targets-test w ↦ λ target h k. absurd (let past = w.targets-test.false in omega arith)
      | then-targets-test+then-frames-to w ↦
          λ target h k.
          none_past bounds second i j target (increasing_le bounds ascending j target h k) (rw (sym ahead.1) w.if-frames-to.true)
    ])

pub returns : goal.returns
returns g c = λ first second is.
    origins_end_law c.requires.fresh.0.ascending c.requires.fresh.0.short
    (c.loop-i.invariant first second is) c.loop-i-test.false
