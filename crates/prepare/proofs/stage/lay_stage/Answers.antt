-- The words and the figures are laid by the boundaries that are read.
use Rattle.record.specs.Meaning.{phrase_of, stage_of}
use Rattle.record.proofs.Reading.{nuclei_first}
use Rattle.prepare.specs.Sides.{Prepared}
use Rattle.prepare.proofs.Prepared.{prepared}
use Rattle.prepare.proofs.stage.lay_stage.Goals as goal

pub returns : goal.returns
returns c =
    let s = c.new-stage.result in
    let read = c.new-stage.ensures in
    let phrase = phrase_of s.accepted.now.bytes.now in
    coe 0 1
    (i. Prepared (phrase_of (read.accepted i)) (stage_of (read.which i) (phrase_of (read.accepted i))) c.args.edges.start c.args.edges.end
    (record { words = c.lay_stage_words.new.words; figures = c.lay_figures.new.figures }))
    (prepared phrase (stage_of s.which phrase) (nuclei_first s.accepted.now.bytes.now) c.lay_stage_words.ensures c.lay_figures.ensures)
