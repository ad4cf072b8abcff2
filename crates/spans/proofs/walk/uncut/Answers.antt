use Rattle.std.proofs.Common.{arith}
use Rattle.laws.proofs.Filling.{filling_none, filling_more}
use Rattle.spans.proofs.Splits.{below_higher, climbs_next}
use Rattle.spans.proofs.walk.uncut.Goals as goal

pub loop-i-init : goal.loop-i-init
loop-i-init c =
    record {
      passed = λ _. record { within = omega arith; each = λ i h. absurd (omega arith) };
      filled = filling_none c.requires.room;
    }

pub loop-i-preserved : goal.loop-i-preserved
loop-i-preserved c =
    let inv = c.loop-i.invariant in
    let climb = climbs_next c.args.frames.now c.requires.frames_up c.loop-i.i in
    record {
      passed = λ more. below_higher _ c.below-past.ensures.front (climb more);
      filled = filling_more inv.filled c.loop-i-test.true (λ x. record { start = c.start_by.ensures x; end = c.end_by.ensures x });
    }
