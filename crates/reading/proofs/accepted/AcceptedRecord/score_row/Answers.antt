-- The row starts within the scores, with room for its columns.
use Rattle.std.proofs.Common.{◌-◌, ◌≡◌, length, take, drop, arith}
use mathlib.Core.Path.{subst⁻¹}
use lib.ListN.{length-drop}
use lib.Seq.{take_all}
use native.Mathlib.Nat.{le_of_eq}
use Rattle.record.specs.Inner.Reading.{row_start, ScoreRow}
use Rattle.reading.proofs.Rows.{row_within, score_row_law}
use Rattle.reading.proofs.accepted.AcceptedRecord.score_row.Goals as goal

pub overflow_mul-start : goal.overflow_mul-start
overflow_mul-start c = omega (arith, row_within c.args.self.now.laid c.requires)

pub overflow_mul-start-2 : goal.overflow_mul-start-2
overflow_mul-start-2 c = omega (arith, row_within c.args.self.now.laid c.requires)

pub overflow_add-start : goal.overflow_add-start
overflow_add-start c = omega (arith, row_within c.args.self.now.laid c.requires)

pub slice_bounds-result-count : goal.slice_bounds-result-count
slice_bounds-result-count c = omega (arith, row_within c.args.self.now.laid c.requires)

pub slice_bounds-result-start : goal.slice_bounds-result-start
slice_bounds-result-start c = omega (arith, row_within c.args.self.now.laid c.requires)

pub returns-clause-score_row : goal.returns-clause-score_row
returns-clause-score_row c =
    let r = c.args.self.now in
    let bytes = r.bytes.now in
    let from = row_start r.at c.args.row in
    let part : take (length bytes - from) (drop from bytes) ≡ drop from bytes = take_all _ (drop from bytes) (le_of_eq (length-drop from bytes)) in
    subst⁻¹ (ScoreRow _ _) part (score_row_law r.laid c.requires)
