use Rattle.std.proofs.Common.{◌≡◌, ℕ, suc, ◌+◌, ◌-◌, ◌<◌, ap, ◌∙◌, arith}
use Rattle.rows.specs.declared.way.Way.{Way}
use Rattle.rows.specs.Ways.{or_later, or_each}
use Rattle.rows.specs.Reads.{unit_way}
use Rattle.rows.proofs.units.units_from.Goals as goal

-- one more origin, and none left
each_turn :
    (way : ℕ → Way) (kept : Way) (i end : ℕ) → 0 < end - i → {kept' : Way} → kept' ≡ or_later kept (way i) →
    or_each way kept' (i + 1) (end - (i + 1)) ≡ or_each way kept i (end - i)
unfolding or_each
each_turn way kept i end h e =
    let more : end - i ≡ suc (end - (i + 1)) = omega arith in
    let next : i + 1 ≡ suc i = omega arith in
    rw (more, e, next)

each-end : (way : ℕ → Way) (kept : Way) (i end : ℕ) → end - i ≡ 0 → kept ≡ or_each way kept i (end - i)
unfolding or_each
each-end way kept i end none = rw none

pub loop-origin-preserved : goal.loop-origin-preserved
loop-origin-preserved c =
    let a = c.args in
    let was = c.loop-origin.invariant in
    let step = c.in-Some.ensures.steps in
    let way = unit_way a.best.now a.tables.now a.to a.score in
    rw (step.0, step.1.2) (
      omega (arith, was.0),
      was.1,
      each_turn way c.loop-origin.kept c.loop-origin.origin-iterator.start c.loop-origin.origin-iterator.end step.1.0
          (c.or-kept.ensures ∙ ap (or_later c.loop-origin.kept) (c.unit_from.ensures ∙ ap way step.1.1)) ∙ was.2,
    )

pub returns : goal.returns
returns c =
    let a = c.args in
    let l = c.loop-origin in
    each-end (unit_way a.best.now a.tables.now a.to a.score) l.kept l.origin-iterator.start l.origin-iterator.end
    c.in-None.ensures.steps.1.0 ∙ l.invariant.2
