use Rattle.std.proofs.Common.{◌≡◌, ap, ◌∙◌, rules, tests}
use Rattle.frames.proofs.Outcomes.{refuses, leaves, answers}
use Rattle.limits.specs.Common.{last_frame}
use Rattle.evidence.specs.CreakyTail.{beyond, tail_after, creaky_tail_of}
use Rattle.evidence.proofs.evidence.creaky_tail.Goals as goal

pub returns-then-pitched-vowel_speech : goal.returns-then-pitched-vowel_speech
unfolding creaky_tail_of
returns-then-pitched-vowel_speech c = refuses _ _ c.if-pitched-vowel_speech.true

pub returns-then-any_above-start : goal.returns-then-any_above-start
unfolding creaky_tail_of
returns-then-any_above-start c =
    let over : c.is_some_and.result ≡ beyond last_frame c.args.next = search (rules, tests) in
    leaves _ _ _ c.if-pitched-vowel_speech.false (refuses _ _ (rw (c.any_above.ensures, c.any_above-2.ensures, over) at c.if-any_above-start.true))

pub returns-in_default : goal.returns-in_default
unfolding creaky_tail_of
returns-in_default c =
    let over : c.is_some_and.result ≡ beyond last_frame c.args.next = search (rules, tests) in
    let fit = rw (c.any_above.ensures, c.any_above-2.ensures, over) at c.if-any_above-start.false in
    let tail = ap (λ last. tail_after last c.args.next c.args.pitched.now c.args.vowel_speech.now) c.in_default.ensures in
    leaves _ _ _ c.if-pitched-vowel_speech.false (leaves _ _ _ fit (answers tail))

pub returns : goal.returns
unfolding creaky_tail_of
returns c =
    let over : c.is_some_and.result ≡ beyond last_frame c.args.next = search (rules, tests) in
    let fit = rw (c.any_above.ensures, c.any_above-2.ensures, over) at c.if-any_above-start.false in
    let tail = ap (λ last. tail_after last c.args.next c.args.pitched.now c.args.vowel_speech.now) c.in-Some.ensures in
    leaves _ _ _ c.if-pitched-vowel_speech.false (leaves _ _ _ fit (answers (c.tail_from.ensures ∙ tail)))
