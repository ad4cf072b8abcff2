use Rattle.std.proofs.Common.{ℕ, ◌≤◌, ◌<◌, arith, subst}
use Rattle.rate.specs.Rate.{gaps}
use Rattle.rate.proofs.Places.{passed_too, none_below_zero, found}
use Rattle.rate.proofs.ascending.Ascending.gap_at.Goals as goal
use Rattle.rate.proofs.ascending.Ascending.gap_at.Goals.{then-gaps_below-place, else-gaps_below-place}

pub loop-range-init : goal.loop-range-init
loop-range-init c =
    let gs = gaps c.args.self.now.frames.now in
    record { within = omega arith; smaller = omega (arith, none_below_zero gs); no_larger = passed_too gs c.requires (omega arith) }

pub loop-range-preserved : goal.loop-range-preserved
loop-range-preserved c =
    let gs = gaps c.args.self.now.frames.now in
    let inv = c.loop-range.invariant in
    let counted = c.gaps_below.ensures in
    elim c.if-gaps_below-place.branch [
      | then-gaps_below-place w ↦
          record { within = omega arith; smaller = rw w.low-is (subst (λ (n : ℕ). n ≤ c.args.place) counted w.if-gaps_below-place.true); no_larger = passed_too gs inv.no_larger (omega arith) }
      | else-gaps_below-place w ↦
          record { within = omega arith; smaller = rw w.low-is inv.smaller; no_larger = passed_too gs (subst (λ (n : ℕ). c.args.place < n) counted w.if-gaps_below-place.false) (omega arith) }
    ]

pub returns : goal.returns
returns c =
    let gs = gaps c.args.self.now.frames.now in
    let inv = c.loop-range.invariant in
    found gs _ _ (record { smaller = inv.smaller; no_larger = passed_too gs inv.no_larger (omega arith) })
