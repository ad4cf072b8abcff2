-- proofs/InOrder.antt has the order of the passes.
use Rattle.std.proofs.Common.{◌≡◌, Bool, true, false, not, sym, ◌∙◌}
use borrow.Author.Tests.{not-true, not-false}
use Rattle.record.specs.Meaning.{phrase_of}
use Rattle.closed.specs.Asked.{columns_of}
use Rattle.closed.proofs.InOrder.{says_unvoiced, says_silent, says_strict, says_relaxed, says_added}
use Rattle.closed.proofs.search.search.Goals as goal

-- what a test of a flag says of the phrase
is_so : {flag fact : Bool} → flag ≡ fact → not flag ≡ false → fact ≡ true
is_so {flag} is h = sym is ∙ not-false flag h

not_so : {flag fact : Bool} → flag ≡ fact → not flag ≡ true → fact ≡ false
not_so {flag} is h = sym is ∙ not-true flag h

pub returns-then-not-runs-clause-says : goal.returns-then-not-runs-clause-says
returns-then-not-runs-clause-says c =
    let runs = c.requires.runs_of in
    says_unvoiced (phrase_of c.args.task.now.accepted.bytes.now) (columns_of c.args.task.now.accepted.bytes.now c.args.task.now.candidate)
    (not_so runs.voiced c.if-not-runs.true)

pub returns-then-not-runs-2-clause-says : goal.returns-then-not-runs-2-clause-says
returns-then-not-runs-2-clause-says c =
    let runs = c.requires.runs_of in
    says_silent (phrase_of c.args.task.now.accepted.bytes.now) (columns_of c.args.task.now.accepted.bytes.now c.args.task.now.candidate)
    (is_so runs.voiced c.if-not-runs.false) (not_so runs.spoken c.if-not-runs-2.true)

pub returns-in-Ok-clause-says : goal.returns-in-Ok-clause-says
returns-in-Ok-clause-says c =
    let runs = c.requires.runs_of in
    says_strict (phrase_of c.args.task.now.accepted.bytes.now) (columns_of c.args.task.now.accepted.bytes.now c.args.task.now.candidate)
    (is_so runs.voiced c.if-not-runs.false) (is_so runs.spoken c.if-not-runs-2.false) c.in-Ok.first c.in-Ok.ensures.says

pub returns-in-Some-clause-says : goal.returns-in-Some-clause-says
returns-in-Some-clause-says c =
    let runs = c.requires.runs_of in
    says_added (phrase_of c.args.task.now.accepted.bytes.now) (columns_of c.args.task.now.accepted.bytes.now c.args.task.now.candidate)
    (is_so runs.voiced c.if-not-runs.false) (is_so runs.spoken c.if-not-runs-2.false) c.in-Err.field-0 c.in-Err.ensures.says
    (rw c.in-Some.is at c.requires.added_lists).0 c.search_added.result c.search_added.ensures.says

pub returns-in-None-clause-says : goal.returns-in-None-clause-says
returns-in-None-clause-says c =
    let runs = c.requires.runs_of in
    says_relaxed (phrase_of c.args.task.now.accepted.bytes.now) (columns_of c.args.task.now.accepted.bytes.now c.args.task.now.candidate)
    (is_so runs.voiced c.if-not-runs.false) (is_so runs.spoken c.if-not-runs-2.false) c.in-Err.field-0 c.in-Err.ensures.says
    (rw c.in-None.is at c.requires.added_lists) c.attempt-in-None.result c.attempt-in-None.ensures.says
