-- Each count reaches a boundary that the walk finds from the one before.
use Rattle.std.proofs.Common.{ℕ, arith, refl, sym, ap, ◌∙◌}
use native.Mathlib.Numerals.{add-one}
use Rattle.laws.proofs.Filling.{filling_none, filling_more}
use Rattle.laws.proofs.Range.{first_le}
use Rattle.laws.specs.Inner.Range.{first_from}
use Rattle.paths.specs.Inner.Ranges.{arrives_from, first_reached}
use Rattle.stages.specs.Ranges.{entry_of}
use Rattle.stages.proofs.since.lay_since.Goals as goal

pub loop-first-init : goal.loop-first-init
unfolding first_reached
loop-first-init c = (filling_none (omega arith), refl, omega arith)

pub loop-first-preserved : goal.loop-first-preserved
unfolding first_reached
loop-first-preserved c =
    let a = c.args in
    let l = c.loop-first in
    let low = entry_of a.low.now in
    let end = entry_of a.ends.now in
    let found = c.next_reached-reached.ensures in (
      filling_more l.invariant.0 (omega arith) l.invariant.1,
      found ∙ ap (λ (since : ℕ). first_from a.n (arrives_from low end since) 0 a.n) l.invariant.1
          ∙ ap (first_reached low end a.n) (sym (add-one l.first-index)),
      omega (arith, found, first_le a.n (arrives_from low end l.reached) 0 a.n a.n (omega arith) (omega arith)),
    )
