-- Which passes there are.
use Rattle.std.proofs.Common.{ap, arith, ◌∙◌}
use Rattle.std.proofs.lemmas.Bool.Decides.{nat_tests}
use Rattle.paths.specs.Passes.{speaks}
use Rattle.record.specs.declared.read.Which.TheVariants.{Nuclei}
use Rattle.prepare.proofs.Parts.{few_anchors_law}
use Rattle.prepare.proofs.Lists.{copied_front}
use Rattle.decode.proofs.Plans.{some_speaks, runs_voiced}
use Rattle.decode.proofs.plan.runs_of.Goals as goal

pub anchors-count-requires : goal.anchors-count-requires
anchors-count-requires c = few_anchors_law c.args.accepted.now.laid Nuclei

pub returns : goal.returns
returns c =
    let spoken = c.is_some.ensures ∙ some_speaks c.args.edges ∙ ap speaks c.requires in
    record {
      spoken = grind (arith, nat_tests, spoken);
      voiced = c.has_nucleus-voiced.ensures ∙ runs_voiced c.args.accepted.now.laid c.mask.ensures (copied_front c.anchors-count.ensures);
    }
