use Rattle.std.proofs.Common.{◌≡◌, arith}
use Rattle.paths.specs.Problem.{Problem}
use Rattle.paths.specs.Cell.{held}
use Rattle.paths.specs.CellRule.{rows}
use Rattle.paths.specs.Inner.Marks.{marks}
use Rattle.rows.specs.Ways.{marked_by}
use Rattle.rows.specs.Rows.{StartsOf, GapsOf}
use Rattle.rows.proofs.Cells.{or_markable, filled_holds}
use Rattle.rows.proofs.Starting.{start_way, gap_way, first_row, later-row, turned}
use Rattle.rows.proofs.starts.fill_starts.Goals as goal
use Rattle.rows.proofs.starts.fill_starts.Goals.{then-j-gt-FIRST, else-j-gt-FIRST}

pub mark-requires : goal.mark-requires
mark-requires c = elim c.if-j-gt-FIRST.branch [
  | then-j-gt-FIRST w ↦ rw (w.kept-is, w.or-kept.ensures) (or_markable _ _ (omega arith) (omega arith))
  | else-j-gt-FIRST w ↦ rw w.kept-is (omega arith)
]

pub loop-j-preserved : goal.loop-j-preserved
unfolding start_way gap_way
loop-j-preserved c =
    let a = c.args in
    let l = c.loop-j in
    let kept : (q : Problem) → StartsOf q a.filler.now.start a.n → GapsOf q a.filler.now.gap a.n
    → rows q (marks q) 0 l.j ≡ held (marked_by c.if-j-gt-FIRST.kept) =
    λ q starts gaps. elim c.if-j-gt-FIRST.branch [
      | then-j-gt-FIRST w ↦ rw (w.kept-is, w.or-kept.ensures) (later-row l.invariant c.loop-j-test.true q starts gaps w.if-j-gt-FIRST.true)
      | else-j-gt-FIRST w ↦
          let none = w.if-j-gt-FIRST.false in
          rw w.kept-is (first_row l.invariant c.loop-j-test.true q starts (omega arith))
    ] in
    turned l.invariant c.loop-j-test.true c.requires.0 c.requires.1 c.if-j-gt-FIRST.kept c.value.result c.mark.result
    c.value.ensures c.mark.ensures kept

pub returns : goal.returns
returns c q starts gaps =
    let l = c.loop-j in
    record {
      row = λ i h. filled_holds l.best l.back i (l.invariant.done q starts gaps i (omega (arith, c.loop-j-test.false)));
      rest = λ at h. l.invariant.rest at (omega (arith, l.invariant.bounded));
    }
