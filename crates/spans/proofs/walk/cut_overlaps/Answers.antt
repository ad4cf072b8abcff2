use Rattle.std.proofs.Common.{◌≡◌, ◌+◌, ◌<◌, cond, ltb, length, get_or, refl, sym, ◌∙◌, arith}
use Rattle.std.proofs.lemmas.List.{length-map}
use Rattle.std.proofs.Math.ListN.{get_or-map}
use Rattle.std.proofs.lemmas.Bool.Decides.{nat_tests}
use borrow.Author.Tests.{lt-ltb, le-ltb}
use Rattle.laws.proofs.Filling.{filling_none, filling_more, filling_all}
use Rattle.laws.proofs.Rewriting.{filling_next, filling_kept}
use Rattle.spans.specs.Inner.Walk.{cut_start}
use Rattle.frames.specs.declared.span.Span.{Span}
use Rattle.spans.proofs.CutEdges.{turn_start, turn_end, last_end, spans_written, starts_both, ends_both}
use Rattle.spans.proofs.Splits.{climbs_next}
use Rattle.spans.proofs.walk.cut_overlaps.Goals as goal
use Rattle.spans.proofs.walk.cut_overlaps.Goals.{then-start-end, else-start-end, then-start-end-2, else-start-end-2}

pub returns-then-is_empty : goal.returns-then-is_empty
returns-then-is_empty c =
    let none : length c.args.frames.now ≡ 0 = grind (arith, nat_tests) in
    filling_all (filling_none c.requires.1) (omega arith)

pub loop-i-init : goal.loop-i-init
unfolding cut_start
loop-i-init c =
    let some : 0 < length c.args.frames.now = grind (arith, nat_tests) in
    let spans = c.args.spans.now in
    record {
      starts = filling_kept 0 (filling_none (rw (length-map spans (λ s. s.start)) c.requires.1)) some refl;
      ends = filling_none (rw (length-map spans (λ s. s.end)) c.requires.1);
    }

pub cut-at-requires : goal.cut-at-requires
cut-at-requires c = omega (arith, climbs_next c.args.frames.now c.requires.0 c.loop-i.i (omega arith))

pub loop-i-preserved : goal.loop-i-preserved
loop-i-preserved c =
    let i = c.loop-i.i in
    let none : Span = record { start = 0; end = 0 } in
    let spans = c.loop-i.spans in
    let s = (get_or spans (i + 1) none).start in
    let e = (get_or spans i none).end in
    let at = c.cut-at.result in
    let start = sym (get_or-map (λ s. s.start) spans (i + 1) none) ∙ filling_next 0 c.loop-i.invariant.starts in
    let end = sym (get_or-map (λ s. s.end) spans i none) ∙ filling_next 0 c.loop-i.invariant.ends in
    let met = c.cut-at.ensures in
    let new_start : c.if-start-end.spans ≡ cond (ltb s e) at s =
    elim c.if-start-end.branch [
      | then-start-end w ↦ rw (lt-ltb _ _ w.if-start-end.true) w.spans-is
      | else-start-end w ↦ rw (le-ltb _ _ w.if-start-end.false) w.spans-is
    ] in
    let new_end : c.if-start-end-2.spans ≡ cond (ltb s e) at e =
    elim c.if-start-end-2.branch [
      | then-start-end-2 w ↦ rw (lt-ltb _ _ w.if-start-end-2.true) w.spans-is
      | else-start-end-2 w ↦ rw (le-ltb _ _ w.if-start-end-2.false) w.spans-is
    ] in
    record {
      starts = rw (starts_both spans i (i + 1) c.if-start-end.spans c.if-start-end-2.spans)
          (filling_more c.loop-i.invariant.starts (omega arith) (new_start ∙ turn_start _ _ _ _ _ _ _ start end met));
      ends = rw (ends_both spans i (i + 1) c.if-start-end.spans c.if-start-end-2.spans)
          (filling_more c.loop-i.invariant.ends (omega arith) (new_end ∙ turn_end _ _ _ _ _ _ _ start end met (omega arith)));
    }

pub returns : goal.returns
returns c =
    let inv = c.loop-i.invariant in
    let some : 0 < length c.args.frames.now = grind (arith, nat_tests) in
    spans_written _ _ c.args.spans.now c.loop-i.spans (filling_all inv.starts (omega arith))
    (filling_all (filling_kept 0 inv.ends (omega arith) (last_end _ _ _ _ (omega arith))) (omega arith))
