use Rattle.std.proofs.Common.{◌≡◌, length, inl, ap, arith}
use Rattle.frames.specs.Inner.Left.{frames_left}
use Rattle.frames.specs.Frames.{ascending}
use Rattle.frames.proofs.Ascending.{ascending_le}
use Rattle.spans.proofs.Words.{written_none, written_all, written_low, written_more}
use Rattle.spans.proofs.spans.write_spans.Goals as goal

pub loop-i-init : goal.loop-i-init
loop-i-init c =
    let nuclei = c.args.nuclei.now in
    let left : frames_left c.into_iter-i-iterator.result.iter ≡ ascending nuclei =
    rw (c.into_iter-i-iterator.ensures.into_iter_gives, c.enumerate-i-items.ensures.source) c.new.ensures in
    let none : c.into_iter-i-iterator.result.count ≡ 0 =
    rw c.into_iter-i-iterator.ensures.into_iter_gives c.enumerate-i-items.ensures.count in
    record {
      can = (tt {0}, tt {0}, inl (omega (arith, none, ap (length {_}) left, ascending_le (length nuclei) 0 nuclei)));
      finite = tt {0};
      written = rw (left, none) (written_none _ _ _ _ _ c.requires.within);
    }

pub span_of-span-requires : goal.span_of-span-requires
span_of-span-requires c =
    let steps = c.in-Some.ensures.steps in
    omega (arith, written_low _ _ _ _ (rw steps.0 at c.loop-i.invariant.written))

pub loop-i-preserved : goal.loop-i-preserved
loop-i-preserved c =
    let steps = c.in-Some.ensures.steps in
    let left = rw steps.0 at c.loop-i.invariant.written in
    record {
      can = c.in-Some.ensures.goes.keeps;
      finite = tt {0};
      written = rw (steps.1, steps.2) (written_more _ _ _ _ left _ c.span_of-span.ensures c.requires.room);
    }

pub returns : goal.returns
returns c = written_all _ _ _ _ (rw c.in-None.ensures.steps.0.0 at c.loop-i.invariant.written)
