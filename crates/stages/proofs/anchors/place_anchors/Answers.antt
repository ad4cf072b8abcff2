-- The kept anchors ascend, so that each boundary finds its place among them.
use Rattle.std.proofs.Common.{◌+◌, length, arith, ◌∙◌}
use Rattle.laws.proofs.Listed.{written_table}
use Rattle.limits.specs.Capacity.{most_edges}
use Rattle.stages.specs.Places.{place_before}
use Rattle.stages.proofs.Stage.{kept_orderly, array_climbs, array_ends, array_long}
use Rattle.stages.proofs.anchors.place_anchors.Goals as goal

pub place_boundaries-requires-clause-climbs :
    goal.place_boundaries-requires-clause-climbs
place_boundaries-requires-clause-climbs c =
    let stage = c.args.stage.now in
    let orderly = kept_orderly stage.mask.now stage.first_row stage.anchors.now stage.fit.framed stage.listed in
    let framed = c.keep_anchors.ensures.framed in
    (array_climbs orderly framed, array_ends orderly framed, omega (arith, array_long orderly framed))

pub returns : goal.returns
returns c =
    let bounds = c.args.stage.now.bounds.now in record {
      framed = c.keep_anchors.ensures.framed;
      rowed = c.keep_anchors.ensures.rowed;
      placed = c.place_boundaries.ensures ∙ written_table (place_before c.keep_anchors.new.frames bounds) (length bounds + 1) most_edges 0;
    }
