-- The count so far is that of the frames passed, from the clamped start on.
use Rattle.std.proofs.Common.{◌≡◌, ℕ, ◌+◌, ◌-◌, get_or, length, min, arith, sym, ap, ◌∙◌}
use mathlib.Core.Path.{ap₂}
use native.Mathlib.Nat.{sub_self}
use Rattle.paths.specs.Frames.{speech_from, speech_in}
use Rattle.paths.proofs.Frames.{weight_le, speech_from_le}
use Rattle.stages.proofs.Speech.{from_next}
use Rattle.stages.proofs.counts.speech_in.Goals as goal

pub loop-at-init : goal.loop-at-init
unfolding speech_from
loop-at-init c = (omega arith, sym (ap (speech_from c.args.mask.now c.min-start.result) (sub_self c.min-start.result)))

pub overflow_add-count : goal.overflow_add-count
overflow_add-count c =
    let mask = c.args.mask.now in
    let start = c.min-start.result in
    let l = c.loop-at in
    omega (arith, weight_le (get_or mask l.at 0), speech_from_le mask start (l.at - start))

pub loop-at-preserved : goal.loop-at-preserved
loop-at-preserved c =
    let l = c.loop-at in
    (omega arith, ap₂ ◌+◌ l.invariant.1 c.weight-count.ensures ∙ sym (from_next c.args.mask.now c.min-start.result l.at (omega arith)))

pub returns : goal.returns
unfolding speech_in
returns c =
    let mask = c.args.mask.now in
    let start : c.min-start.result ≡ min c.args.from (length mask) = omega arith in
    let end : c.min-end.result ≡ min c.args.to (length mask) = omega arith in
    let e : c.loop-at.at - c.min-start.result ≡ c.min-end.result - c.min-start.result = omega arith in
    c.loop-at.invariant.1 ∙ ap (speech_from mask c.min-start.result) e
    ∙ ap₂ (λ (from to : ℕ). speech_from mask from (to - from)) start end
