-- proofs/AllRows.antt has the rows.
use Rattle.std.proofs.Common.{◌≡◌, ℕ, ◌+◌, ◌<◌, List, [], length, get_or, sym, ap, subst, arith}
use mathlib.Core.Path.{subst⁻¹}
use lib.Ieee.{Float}
use Rattle.phrase.specs.declared.costs.Costs.{Costs}
use Rattle.limits.specs.Capacity.{unit_counts}
use Rattle.stages.specs.Tables.{since_in}
use Rattle.record.proofs.Accepted.{fit}
use Rattle.record.proofs.Reading.{few_units_law as candidate-units, within_real}
use Rattle.record.specs.Meaning.{phrase_of}
use Rattle.rows.specs.Reads.{reached_by, score_read, Scorable}
use Rattle.rows.specs.Units.{Ordered, row_tables, Begins}
use Rattle.rows.proofs.Cells.{same_trans}
use Rattle.rows.proofs.Tables.{reached_at}
use Rattle.closed.specs.declared.task.StageTask.{StageTask}
use Rattle.closed.specs.Filled.{row_at, FilledNext}
use Rattle.closed.specs.Searched.{row_with, scores_in}
use Rattle.closed.specs.Reported.{AllRows, LastReached}
use Rattle.closed.specs.Tasks.{asked_by, Searchable}
use Rattle.paths.specs.Problem.{Problem}
use Rattle.closed.specs.Asked.{Agrees}
use Rattle.closed.proofs.Reaching.{reaches, begins}
use Rattle.closed.proofs.AllRows.{rows_begin, first_rest, next_fits, rows_more}
use Rattle.closed.proofs.best_path.fill_rows.Goals as goal

module _ (stage : StageTask) {best : List Float} {back : List ℕ} (called : Searchable stage best back) where
  few_units_law : length (asked_by stage).columns < unit_counts
  few_units_law = omega (arith, candidate-units stage.task.given.laid stage.task.given.listed)

  -- the unit of a turn is one of the candidate's; its column is as read
  module _ (s : ℕ) (more : s < length (asked_by stage).columns) (column : ℕ) (read : column ≡ get_or (asked_by stage).columns s 0) where
    abbrev score : ℕ → Float
    score = score_read stage.task.accepted.bytes.now stage.tables.now.words column

    scorable : Scorable stage.task.accepted.bytes.now stage.task.accepted.at stage.tables.now.words column stage.n
    scorable = record {
      laid = stage.task.given.laid;
      numbered = subst⁻¹ (λ (x : ℕ). x < stage.task.accepted.at.scores.count) read
          (((fit stage.task.given.laid).candidates stage.task.candidate (record { id = 0; columns = [] }) stage.task.given.listed).below s more);
      rows = called.readable.rows;
    }

    ordered : Ordered (row_tables stage.n stage.tables.now score stage.task.costs stage.strictness) stage.n
    ordered = record {
      earlier = called.readable.earlier;
      fits = called.readable.fits;
      inside = called.readable.inside;
      number = rw stage.task.given.figures (within_real (fit stage.task.given.laid).unvoiced);
    }

    reading : (r : ℕ) → r < unit_counts
        → reached_by stage.tables.now.words stage.strictness r ≡ get_or (since_in (asked_by stage).tables stage.strictness) r 0
    reading r h = sym (reached_at stage.n stage.tables.now.words stage.tables.now.figures stage.strictness r)

    beginning : Begins (row_tables stage.n stage.tables.now score stage.task.costs stage.strictness) stage.n
        (reached_by stage.tables.now.words stage.strictness s) (reached_by stage.tables.now.words stage.strictness (s + 1))
    beginning =
        let few = few_units_law in
        begins (asked_by stage) called.readable score stage.task.costs s (omega arith) _ _ (reading s (omega arith)) (reading (s + 1) (omega arith))

    -- the scores are those of the unit's column
    scored : (j : ℕ) → j < stage.n → score j ≡ scores_in (phrase_of stage.task.accepted.bytes.now) (asked_by stage).tables (get_or (asked_by stage).columns s 0) j
    scored j h =
        ap ((phrase_of stage.task.accepted.bytes.now).score (get_or (asked_by stage).tables.row j 0)) read

    reaching : (q : Problem) → Agrees (asked_by stage) q → LastReached q stage.n s (reached_by stage.tables.now.words stage.strictness s)
    reaching q agrees =
        let few = few_units_law in
        reaches (asked_by stage) called.readable q agrees s (omega arith) _ (reading s (omega arith))

pub loop-s-init : goal.loop-s-init
loop-s-init c =
    let some = c.requires.searchable.some in
    rows_begin (asked_by c.args.stage.now) c.requires.searchable.unused c.fill_starts.ensures some.0 some.1

pub invariant_of-inputs : goal.invariant_of-inputs
invariant_of-inputs c =
    let stage = c.args.stage.now in
    let called = c.requires.searchable in
    let more : c.loop-s.s < length (asked_by stage).columns = omega (arith, c.loop-s-test.true, c.requires.k_value) in
    record {
      few = called.readable.few;
      scorable = scorable stage called c.loop-s.s more c.column-unit.result c.column-unit.ensures;
      ordered = ordered stage called c.loop-s.s more c.column-unit.result c.column-unit.ensures;
    }

pub fill_next-requires : goal.fill_next-requires
fill_next-requires c =
    let stage = c.args.stage.now in
    let called = c.requires.searchable in
    let was = c.loop-s.invariant in
    let unused = called.unused in
    let began = c.fill_starts.auto in
    let few = few_units_law stage called in
    let more : c.loop-s.s < length (asked_by stage).columns = omega (arith, c.loop-s-test.true, c.requires.k_value) in
    let fits = next_fits (asked_by stage) was more in
    record {
      n_in_bounds = (
        omega (arith, fits, unused.values, was.valued, began.best),
        omega (arith, fits, unused.marks, was.marked, began.back),
        omega arith,
        λ j h. was.unused (row_at stage.n c.loop-s.s (stage.n + j)) (omega arith) (omega (arith, fits)),
      );
      begins = beginning stage called c.loop-s.s more c.column-unit.result c.column-unit.ensures;
    }

pub loop-s-preserved : goal.loop-s-preserved
loop-s-preserved c =
    let stage = c.args.stage.now in
    let called = c.requires.searchable in
    let was = c.loop-s.invariant in
    let next = c.fill_next in
    let some = called.some in
    let more : c.loop-s.s < length (asked_by stage).columns = omega (arith, c.loop-s-test.true, c.requires.k_value) in
    let column = c.column-unit in
    rows_more (asked_by stage) was more next.auto.best next.auto.back
    (score_read stage.task.accepted.bytes.now stage.tables.now.words column.result)
    (scored stage called c.loop-s.s more column.result column.ensures)
    (reached_by stage.tables.now.words stage.strictness c.loop-s.s)
    (subst (λ (x : Costs). FilledNext (row_with (asked_by stage).tables (score_read stage.task.accepted.bytes.now stage.tables.now.words column.result) x
    stage.strictness) c.loop-s.best c.loop-s.back next.new.best next.new.back stage.n c.loop-s.s
    (reached_by stage.tables.now.words stage.strictness c.loop-s.s)) stage.task.given.figures next.ensures)
    (reaching stage called c.loop-s.s more column.result column.ensures)
    some.0 some.1

pub returns : goal.returns
returns c =
    let stage = c.args.stage.now in
    let some = c.requires.searchable.some in
    let inv = c.loop-s.invariant in
    let all : c.loop-s.s ≡ length (asked_by stage).columns = omega (arith, c.loop-s-test.false, c.requires.k_value, inv.bounded) in
    record {
      rows = λ q agrees. subst (AllRows q c.loop-s.best c.loop-s.back stage.n) all (inv.filled q agrees);
      rest = λ at h. same_trans (first_rest (asked_by stage) c.fill_starts.ensures some.0 some.1 at h) (inv.rest at h);
    }
