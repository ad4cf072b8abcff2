-- The numbers on both sides of a place are frames of the record.
use Rattle.std.proofs.Common.{ℕ, ◌≡◌, ◌+◌, ◌-◌, [], leb, refl, sym, ap, ap₂, ◌∙◌, arith}
use Rattle.record.specs.Below.{any_below}
use Rattle.record.specs.Conditions.{frame_at}
use Rattle.record.proofs.Below.{any_next}
use Rattle.record.proofs.Numbers.{u32_read}
use Rattle.tracks.proofs.unordered.Goals as goal

pub loop-i-init : goal.loop-i-init
unfolding any_below
loop-i-init c = (omega arith, refl)

pub loop-i-preserved : goal.loop-i-preserved
loop-i-preserved c =
    let i = c.loop-i.i in
    let frame = frame_at c.args.bytes.now c.args.s in
    let falls = λ (k : ℕ). leb (frame (k + 1)) (frame k) in
    let number = c.numbers_at-frames.ensures.number in
    let long = c.numbers_at-frames.ensures.len in
    let from = c.loop-i.auto.i in
    let place : i - 1 + 1 ≡ i = omega arith in
    let here : c.from_le_bytes.result ≡ frame (i - 1 + 1) =
    u32_read _ _ (number i [] (omega (arith, long))) c.from_le_bytes.ensures ∙ ap frame (sym place) in
    let before = u32_read _ _ (number (i - 1) [] (omega (arith, long))) c.from_le_bytes-in-loop-i.ensures in
    (omega arith, any_next falls (i - 1) c.loop-i.invariant.1 (ap₂ leb here before) ∙ ap (any_below falls) (omega arith))

pub returns : goal.returns
returns c =
    let from = c.loop-i.auto.i in
    let long = c.numbers_at-frames.ensures.len in
    c.loop-i.invariant.1 ∙ ap (any_below _) (omega (arith, long, c.loop-i.invariant.0))
