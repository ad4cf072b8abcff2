-- The arrays hold the anchors kept of the frames passed.
use Rattle.std.proofs.Common.{ℕ, ◌+◌, ◌<◌, List, length, take, arith, sym, ap, ◌∙◌}
use Rattle.std.proofs.Math.ListN.{length-set, length-replicate}
use mathlib.Core.Path.{subst₃}
use Rattle.paths.specs.Anchors.{kept_in, select, numbered}
use Rattle.limits.specs.Capacity.{anchor_room}
use Rattle.limits.specs.Common.{absent}
use Rattle.stages.specs.Kept.{Keeps}
use Rattle.stages.proofs.Kept.{keeps_none, keeps_it, drops_it}
use Rattle.stages.proofs.anchors.keep_anchors.Goals as goal
use Rattle.stages.proofs.anchors.keep_anchors.Goals.{then-within, else-within}

pub loop-i-init : goal.loop-i-init
unfolding kept_in select numbered
loop-i-init c = (
  omega arith,
  rw (c.requires.frames_value.0, c.requires.frames_value.1) keeps_none,
  ap length c.requires.frames_value.0 ∙ length-replicate {A = ℕ} anchor_room absent,
  ap length c.requires.frames_value.1 ∙ length-replicate {A = ℕ} anchor_room 0,
)

pub loop-i-preserved : goal.loop-i-preserved
loop-i-preserved c =
    let mask = c.args.mask.now in
    let anchors = c.args.anchors.now in
    let first = c.args.first_row in
    let l = c.loop-i in
    let more : l.i < length anchors = omega arith in
    let kept = kept_in mask first (take (l.i + 1) anchors) in
    elim c.if-within.branch [
      | then-within w ↦ (
        omega arith,
        subst₃ (λ (n : ℕ) (frames rows : List ℕ). Keeps kept n frames rows) (sym w.count-is) (sym w.frames-is) (sym w.rows-is)
            (keeps_it mask first anchors l.i more l.count l.frames l.rows l.invariant.1 (omega arith)
            (sym c.within.ensures ∙ w.if-within.true)),
        ap length w.frames-is ∙ length-set l.frames l.count _ ∙ l.invariant.2,
        ap length w.rows-is ∙ length-set l.rows l.count _ ∙ l.invariant.3,
      )
      | else-within w ↦ (
        omega arith,
        subst₃ (λ (n : ℕ) (frames rows : List ℕ). Keeps kept n frames rows) (sym w.count-is) (sym w.frames-is) (sym w.rows-is)
            (drops_it mask first anchors l.i more l.count l.frames l.rows l.invariant.1
            (sym c.within.ensures ∙ w.if-within.false)),
        ap length w.frames-is ∙ l.invariant.2,
        ap length w.rows-is ∙ l.invariant.3,
      )
    ]
