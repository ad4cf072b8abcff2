-- The filler costs go by the record's nuclei and the stage's boundaries, the durations by its table.
use Rattle.std.proofs.Common.{ℕ, ◌+◌, rules}
use Rattle.limits.specs.Common.{shortest_unit, durations}
use Rattle.paths.specs.Anchors.{kept_in}
use Rattle.record.specs.Meaning.{phrase_of, stage_of}
use Rattle.record.specs.declared.read.Which.TheVariants.{Nuclei}
use Rattle.stages.specs.Filler.{no_cost}
use Rattle.stages.specs.Parts.{Fills}
use Rattle.stages.proofs.Written.{whole_table}
use Rattle.prepare.proofs.Lists.{copied_front}
use Rattle.prepare.proofs.Parts.{few_anchors_law, read_fit, read_listed}
use Rattle.prepare.proofs.stage_read.StageRead.lay_figures.Goals as goal

pub anchors-n-requires : goal.anchors-n-requires
anchors-n-requires c = few_anchors_law c.args.self.now.accepted.now.laid Nuclei

pub lay_filler-requires : goal.lay_filler-requires
lay_filler-requires c =
    let s = c.args.self.now in
    (read_fit s.accepted.now.laid s.which c.mask.ensures s.read, read_listed s.accepted.now.laid Nuclei (copied_front c.anchors-n.ensures))

pub returns : goal.returns
returns c =
    let s = c.args.self.now in
    let inserted = copied_front c.anchors-n.ensures in
    let duration = λ (i : ℕ). (stage_of s.which (phrase_of s.accepted.now.bytes.now)).duration (i + shortest_unit) in record {
      fills =
          coe 0 1 (i. Fills (c.costs.ensures i) (c.mask.ensures i) (kept_in (c.mask.ensures i) 0 (inserted i)) (s.read i) c.lay_filler.new.filler)
          c.lay_filler.ensures;
      timed = whole_table duration durations no_cost c.args.figures.now.durations (search rules)
          (c.write_each.ensures duration (λ i x below read. search rules));
    }
