-- The parts of an accepted record's stage are fit for its tables.
use Rattle.std.proofs.Common.{arith, ◌∙◌}
use Rattle.prepare.proofs.Lists.{copied_front}
use Rattle.prepare.proofs.Parts.{few_anchors_law, first_row_is, few_nuclei, read_fit, read_small, read_listed, read_rows_fit}
use Rattle.prepare.proofs.stage_read.StageRead.parts.Goals as goal

pub anchors-n-requires : goal.anchors-n-requires
anchors-n-requires c = omega (arith, few_anchors_law c.args.self.now.accepted.now.laid c.args.self.now.which, c.told-anchors)

pub row_from-requires : goal.row_from-requires
row_from-requires c = few_nuclei c.args.self.now.accepted.now.laid

pub invariant_of-result : goal.invariant_of-result
invariant_of-result c =
    let s = c.args.self.now in
    let h = s.accepted.now.laid in
    let anchored = copied_front c.anchors-n.ensures in record {
      fit = read_fit h s.which c.mask.ensures s.read;
      listed = read_listed h s.which anchored;
      numbered = read_rows_fit h s.which anchored (c.row_from.ensures ∙ first_row_is h s.which);
      bounded = read_small h s.which s.read;
    }

pub returns : goal.returns
returns c =
    let s = c.args.self.now in record {
      masked = c.mask.ensures;
      anchored = copied_front c.anchors-n.ensures;
      ranked = c.row_from.ensures ∙ first_row_is s.accepted.now.laid s.which;
      bounded = s.read;
    }
