-- The parts that are read are the stage's.
use Rattle.paths.specs.Anchors.{kept_in}
use Rattle.prepare.specs.Sides.{Worded}
use Rattle.prepare.proofs.Parts.{read_followed}
use Rattle.prepare.proofs.stage_read.StageRead.lay_stage_words.Goals as goal

pub lay_words-requires : goal.lay_words-requires
lay_words-requires c = read_followed c.args.self.now.accepted.now.laid c.args.self.now.which c.parts-stage.ensures.anchored

pub returns : goal.returns
returns c =
    let is = c.parts-stage.ensures in
    coe 0 1
    (i. Worded (kept_in (is.masked i) (is.ranked i) (is.anchored i)) (is.anchored i) (is.bounded i) c.args.edges.start c.args.edges.end
    c.lay_words.new.words) c.lay_words.ensures
