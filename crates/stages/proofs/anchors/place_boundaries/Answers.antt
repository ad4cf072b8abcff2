-- Each place is found from the one before, which is not above it.
use Rattle.std.proofs.Common.{◌≡◌, ℕ, ◌+◌, length, get_or, set, arith, sym, ap, ◌∙◌}
use Rattle.laws.proofs.Filling.{filling_none, filling_more, filling_all}
use Rattle.stages.specs.Edges.{edge}
use Rattle.limits.specs.Common.{absent}
use Rattle.stages.specs.Places.{count_below}
use Rattle.stages.proofs.Edges.{edge_in, edge_end, edge_ascends}
use Rattle.stages.proofs.Places.{below_mono}
use Rattle.stages.proofs.anchors.place_boundaries.Goals as goal

pub loop-j-init : goal.loop-j-init
loop-j-init c = (filling_none (omega arith), omega arith)

pub advance-place-requires : goal.advance-place-requires
advance-place-requires c =
    let bounds = c.args.bounds.now in
    let l = c.loop-j in (
      c.requires.climbs.0,
      rw (edge_in bounds absent l.j (omega arith)) at l.invariant.1,
      omega (arith, below_mono c.args.frames.now (get_or bounds l.j 0) absent (omega arith)),
    )

pub overflow_cast-places : goal.overflow_cast-places
overflow_cast-places c =
    omega (
      arith,
      c.advance-place.ensures,
      below_mono c.args.frames.now (get_or c.args.bounds.now c.loop-j.j 0) absent (omega arith),
    )

pub loop-j-preserved : goal.loop-j-preserved
loop-j-preserved c =
    let frames = c.args.frames.now in
    let bounds = c.args.bounds.now in
    let l = c.loop-j in
    let e = edge_in bounds absent l.j (omega arith) in (
      filling_more l.invariant.0 (omega arith) (c.advance-place.ensures ∙ ap (count_below frames) (sym e)),
      rw c.advance-place.ensures
          (below_mono frames (get_or bounds l.j 0) (edge bounds absent (l.j + 1))
          (edge_ascends bounds absent c.requires.bounds_in_bounds.1 l.j (omega arith) (omega arith))),
    )

-- the last place is how many frames there are
pub returns : goal.returns
returns c =
    let frames = c.args.frames.now in
    let bounds = c.args.bounds.now in
    let l = c.loop-j in
    let e : l.j ≡ length bounds = omega arith in
    ap (λ (j : ℕ). set l.places j c.advance.result) (sym e)
    ∙ filling_all
    (filling_more l.invariant.0 (omega arith)
    (c.advance.ensures ∙ ap (count_below frames) (sym (ap (edge bounds absent) e ∙ edge_end bounds absent))))
    (omega arith)
