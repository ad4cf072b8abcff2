use Rattle.std.proofs.Common.{length}
use mathlib.Core.Path.{subst⁻¹}
use Rattle.std.specs.Prelude.{Result}
use Rattle.paths.specs.Passes.{pass_problem}
use Rattle.record.specs.Meaning.{phrase_of}
use Rattle.closed.specs.declared.search.Found.{Found}
use Rattle.closed.specs.declared.search.Missed.{Missed}
use Rattle.closed.specs.Asked.{columns_of}
use Rattle.closed.specs.Answered.{Says, pass_answer}
use Rattle.closed.proofs.Staged.{pass_agrees, pass_inputs}
use Rattle.closed.proofs.Answers.{says_path}
use Rattle.closed.proofs.search.attempt.Goals as goal

pub best_path-requires : goal.best_path-requires
best_path-requires c =
    pass_inputs c.args.task.now.given c.args.pass c.args.tables.now c.requires.stage_lists c.from.ensures c.pick.ensures
    c.requires.nucleus c.requires.unused

pub returns-clause-says : goal.returns-clause-says
returns-clause-says c =
    let a = c.args in
    let task = a.task.now in
    let phrase = phrase_of task.accepted.bytes.now in
    let columns = columns_of task.accepted.bytes.now task.candidate in
    let problem = pass_problem phrase a.pass columns in
    subst⁻¹ (λ (r : Result Found Missed). Says (pass_answer phrase a.pass columns) r) c.answer_in.ensures
    (says_path a.pass problem (length columns) c.best_path.result
    (c.best_path.ensures.reports_for problem
    (pass_agrees task.given a.pass a.tables.now c.requires.stage_lists c.from.ensures c.pick.ensures)))
