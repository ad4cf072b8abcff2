-- The parts that are read are the stage's.
use Rattle.paths.specs.Anchors.{kept_in}
use Rattle.stages.specs.Parts.{Searched}
use Rattle.most_units.proofs.reach.lay_reach.Goals as goal

pub returns : goal.returns
returns c =
    let is = c.parts-parts.ensures in
    coe 0 1 (i. Searched (kept_in (is.masked i) (is.ranked i) (is.anchored i)) (is.bounded i) c.lay_parts.new.words)
    c.lay_parts.ensures.searched
