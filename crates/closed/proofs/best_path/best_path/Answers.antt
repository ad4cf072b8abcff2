-- proofs/Chosen.antt has what filled rows report, and proofs/Restored.antt that the work areas end as they came.
use Rattle.std.proofs.Common.{◌≡◌, ℕ, suc, ◌*◌, ◌<◌, ◌≤◌, List, ◌++◌, length, sym, ap, subst, ◌∙◌, get_or, drop, replicate, arith}
use mathlib.Core.Path.{subst⁻¹}
use lib.Ieee.{Float, binary64, nan, of_bits}
use Rattle.std.specs.Prelude.{Some, None}
use Rattle.record.proofs.Reading.{few_units_law as candidate-units}
use Rattle.paths.specs.Problem.{Problem}
use Rattle.limits.specs.Capacity.{unit_counts}
use Rattle.stages.specs.Tables.{since_in}
use Rattle.rows.specs.Reads.{reached_by}
use Rattle.rows.proofs.Tables.{reached_at}
use Rattle.closed.specs.declared.task.StageTask.{StageTask}
use Rattle.closed.specs.Reported.{AllRows, LastReached, Reports}
use Rattle.closed.specs.Asked.{Agrees, cells_for}
use Rattle.closed.specs.Tasks.{asked_by, Searchable}
use Rattle.closed.proofs.Chosen.{reports_none}
use Rattle.closed.proofs.Reaching.{reaches, none_there}
use Rattle.closed.proofs.Restored.{restored, zero_value, zero_mark}
use Rattle.closed.proofs.best_path.best_path.Goals as goal

-- once the candidate's units are counted, and the first boundary of the last row is read
module _ (stage : StageTask) {best : List Float} {back : List ℕ} (called : Searchable stage best back)
    (k : ℕ) (counted : k ≡ length (asked_by stage).columns) where
  few_units_law : k < unit_counts
  few_units_law = omega (arith, counted, candidate-units stage.task.given.laid stage.task.given.listed)

  used : suc k * stage.n ≡ cells_for (asked_by stage)
  used = ap (λ (m : ℕ). suc m * stage.n) counted

  module _ (since : ℕ) (first : since ≡ reached_by stage.tables.now.words stage.strictness k) where
    first-there : since ≡ get_or (since_in (asked_by stage).tables stage.strictness) k 0
    first-there = first ∙ sym (reached_at stage.n stage.tables.now.words stage.tables.now.figures stage.strictness k)

    last_reached : (q : Problem) → Agrees (asked_by stage) q → LastReached q stage.n k since
    last_reached q agrees = reaches (asked_by stage) called.readable q agrees k few_units_law since first-there

    reports_nowhere : stage.n ≤ since → (q : Problem) → Agrees (asked_by stage) q → Reports q (length (asked_by stage).columns) None
    reports_nowhere past q agrees =
        subst (λ (m : ℕ). Reports q m None) counted
        (reports_none (none_there (asked_by stage) called.readable q agrees k few_units_law (omega (arith, first-there))))

pub at-since-requires : goal.at-since-requires
at-since-requires c = (omega arith, few_units_law c.args.stage.now c.requires c.units-k.result c.units-k.ensures)

pub returns-then-since-stage-clause-reports_for : goal.returns-then-since-stage-clause-reports_for
returns-then-since-stage-clause-reports_for c =
    reports_nowhere c.args.stage.now c.requires c.units-k.result c.units-k.ensures c.at-since.result c.at-since.ensures
    c.if-since-stage.true

pub finish-path-requires : goal.finish-path-requires
finish-path-requires c =
    let a = c.args in
    let unused = c.requires.unused in
    let some = c.requires.some in
    let filled = c.fill_rows in
    let cells = used c.args.stage.now c.requires c.units-k.result c.units-k.ensures in
    let few = few_units_law c.args.stage.now c.requires c.units-k.result c.units-k.ensures in
    record {
      k_le_most_units = (
        omega arith,
        omega (arith, c.requires.readable.few),
        omega (arith, cells, unused.values, filled.auto.best),
        omega (arith, cells, unused.marks, filled.auto.back),
        omega (arith, c.requires.readable.few),
        c.if-since-stage.false,
      );
      some_rows = (
        some.0,
        some.1.stops,
        subst⁻¹ (AllRows some.0 filled.new.best filled.new.back a.stage.now.n) c.units-k.ensures (filled.ensures.rows some.0 some.1),
        last_reached c.args.stage.now c.requires c.units-k.result c.units-k.ensures c.at-since.result c.at-since.ensures some.0 some.1,
      );
    }

pub returns-clause-reports_for : goal.returns-clause-reports_for
returns-clause-reports_for c =
    let a = c.args in
    let filled = c.fill_rows in
    let done = c.finish-path in
    λ q agrees. subst (λ (k : ℕ). Reports q k (Some done.result)) c.units-k.ensures
    (done.ensures.reports q agrees.stops
    (subst⁻¹ (AllRows q filled.new.best filled.new.back a.stage.now.n) c.units-k.ensures (filled.ensures.rows q agrees))
    (last_reached c.args.stage.now c.requires c.units-k.result c.units-k.ensures c.at-since.result c.at-since.ensures q agrees))

pub returns-clause-best_unchanged : goal.returns-clause-best_unchanged
returns-clause-best_unchanged c =
    let a = c.args in
    let unused = c.requires.unused in
    let filled = c.fill_rows in
    let done = c.finish-path in
    let cells = used c.args.stage.now c.requires c.units-k.result c.units-k.ensures in
    let asked = asked_by a.stage.now in (
      done.ensures.best_after ∙ ap (λ (m : ℕ). replicate m (of_bits binary64 0) ++ drop m filled.new.best) cells
          ∙ restored (cells_for asked) a.best.now filled.new.best (of_bits binary64 0) nan unused.values filled.auto.best
          (λ i h. zero_value (unused.zero i h)) (λ i h. (filled.ensures.rest i h).value),
      done.ensures.back_after ∙ ap (λ (m : ℕ). replicate m 0 ++ drop m filled.new.back) cells
          ∙ restored (cells_for asked) a.back.now filled.new.back 0 0 unused.marks filled.auto.back
          (λ i h. zero_mark (unused.zero i h)) (λ i h. (filled.ensures.rest i h).mark),
    )
