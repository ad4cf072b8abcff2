-- The work areas are cleared, the stages are laid, and the entries of all candidates are written.
use Rattle.std.proofs.Common.{ℕ, List, ◌≡◌, sym, ap, subst, ◌∙◌, arith}
use Rattle.limits.specs.Sizes.{work_cells}
use Rattle.limits.specs.Inner.Moderate.{Moderate}
use Rattle.limits.specs.declared.edition.Limits.{Limits}
use Rattle.limits.proofs.Editions.{moderate}
use Rattle.record.specs.Layout.{limits_of, limits_at}
use Rattle.record.specs.Inner.Accepted.{Laid}
use Rattle.record.specs.declared.layout.Layout.{Layout}
use Rattle.record.proofs.Accepted.{laid_limits}
use Rattle.reading.specs.declared.accepted.AcceptedRecord.{AcceptedRecord}
use Rattle.decode.proofs.Cleared.{unused_cleared}
use Rattle.closed.specs.Asked.{Unused}
use Rattle.decode.proofs.Plans.{prepared_by, added_there, added_prepared}
use Rattle.decode.proofs.decode.decode_accepted.Goals as goal

pub work_cells-requires : goal.work_cells-requires
work_cells-requires c = subst Moderate (sym c.limits_of-limits.ensures) (moderate _)

-- the cells of the record's edition
cells : {bytes : List ℕ} {at : Layout} {limits : Limits} {n : ℕ}
    → Laid bytes at → limits ≡ limits_at at → n ≡ work_cells limits → n ≡ work_cells (limits_of bytes)
cells laid looked_up counted = counted ∙ ap work_cells (looked_up ∙ laid_limits laid)

pub clear-requires : goal.clear-requires
clear-requires c =
    let n = cells c.args.accepted.laid c.limits_of-limits.ensures c.work_cells.ensures in
    (omega (arith, c.requires.values), omega (arith, c.requires.marks))

pub new-decoder-requires : goal.new-decoder-requires
new-decoder-requires c =
    let planned = c.plan_of-plan.ensures in
    record {
      planned = planned;
      nuclei_prepared = prepared_by planned c.lay_stage.ensures;
      added_there = added_there c.args.accepted.laid _ c.then_some-added.ensures;
      added_prepared = added_prepared c.args.accepted.laid _ c.then_some-added.ensures (λ there. prepared_by planned (c.lay_added.ensures.there there));
    }

pub put_candidates-requires-clause-unused : goal.put_candidates-requires-clause-unused
put_candidates-requires-clause-unused c =
    let n = cells c.args.accepted.laid c.limits_of-limits.ensures c.work_cells.ensures in
    subst (λ (bytes : List ℕ). Unused c.clear.new.best c.clear.new.back (work_cells (limits_of bytes))) (sym (ap (λ (a : AcceptedRecord). a.bytes.now) c.new-decoder.ensures.accepted))
    (unused_cleared _ _ _ (rw n at c.clear.ensures.best_after) (rw n at c.clear.ensures.back_after) c.requires.values c.requires.marks)

pub returns : goal.returns
returns c =
    let n = cells c.args.accepted.laid c.limits_of-limits.ensures c.work_cells.ensures in
    let put = c.put_candidates.ensures in
    record {
      words = rw c.new-decoder.ensures.accepted at put.out_after;
      values = put.best_unchanged.0 ∙ rw n at c.clear.ensures.best_after;
      marks = put.best_unchanged.1 ∙ rw n at c.clear.ensures.back_after;
    }
