use Rattle.std.proofs.Common.{length, refl, arith}
use borrow.Author.Tests.{lt-ltb, le-ltb}
use Rattle.frames.proofs.Ascending.{ascending_le}
use Rattle.frames.proofs.Outcomes.{refuses, leaves, answers}
use Rattle.spans.specs.Spans.{tbu_spans_of}
use Rattle.spans.proofs.spans.tbu_spans.Goals as goal

pub returns-then-nuclei-bounds : goal.returns-then-nuclei-bounds
unfolding tbu_spans_of
returns-then-nuclei-bounds c = record { answered = refuses _ _ c.if-nuclei-bounds.true; output = refl }

pub returns-then-any_above-bounds : goal.returns-then-any_above-bounds
unfolding tbu_spans_of
returns-then-any_above-bounds c =
    let unfit = rw (c.any_above.ensures, c.any_above-2.ensures) at c.if-any_above-bounds.true in
    record { answered = leaves _ _ _ c.if-nuclei-bounds.false (refuses _ _ unfit); output = refl }

pub overflow_mul-count : goal.overflow_mul-count
overflow_mul-count c = omega (arith, ascending_le (length c.args.nuclei.now) 0 c.args.nuclei.now, c.distinct-count.ensures)

pub returns-then-out-count : goal.returns-then-out-count
unfolding tbu_spans_of
returns-then-out-count c =
    let fit = rw (c.any_above.ensures, c.any_above-2.ensures) at c.if-any_above-bounds.false in
    let short = rw c.distinct-count.ensures at (lt-ltb _ _ c.if-out-count.true) in
    record { answered = leaves _ _ _ c.if-nuclei-bounds.false (leaves _ _ _ fit (refuses _ _ short)); output = refl }

pub returns : goal.returns
unfolding tbu_spans_of
returns c =
    let fit = rw (c.any_above.ensures, c.any_above-2.ensures) at c.if-any_above-bounds.false in
    let enough = rw c.distinct-count.ensures at (le-ltb _ _ c.if-out-count.false) in
    record {
      answered = leaves _ _ _ c.if-nuclei-bounds.false (leaves _ _ _ fit (leaves _ _ _ enough (answers c.distinct-count.ensures)));
      output = c.write_spans.ensures;
    }
