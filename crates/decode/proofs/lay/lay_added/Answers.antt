-- A is the count of added-stage anchors.
use Rattle.std.proofs.Common.{refl, sym, ◌∙◌, rules}
use Rattle.std.proofs.lemmas.Bool.{false≢true}
use Rattle.decode.proofs.Plans.{some_added, none_added, one_added}
use Rattle.decode.proofs.lay.lay_added.Goals as goal

pub lay_stage-requires : goal.lay_stage-requires
lay_stage-requires c = search (rules, some_added c.args.accepted.now.laid c.if-at-ne0.true)

pub returns-then-at-ne0 : goal.returns-then-at-ne0
returns-then-at-ne0 c = record {
  there = λ e. c.lay_stage.ensures;
  lacking = λ e. absurd (false≢true (sym e ∙ one_added c.args.accepted.now.laid c.if-at-ne0.true));
}

pub returns-else-at-ne0 : goal.returns-else-at-ne0
returns-else-at-ne0 c = record {
  there = λ e. absurd (false≢true (sym (none_added c.args.accepted.now.laid c.if-at-ne0.false) ∙ e));
  lacking = λ e. refl;
}
