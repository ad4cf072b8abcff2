-- The rules are asked one after the other.
use Rattle.std.proofs.Common.{sym, ap, ◌∙◌}
use mathlib.Core.Option.{Option}
use Rattle.laws.specs.Rules.{first_of}
use Rattle.record.specs.Refusals.{candidate_rules}
use Rattle.record.specs.Inner.Checks.{answer}
use Rattle.limits.specs.declared.edition.Limits.{Limits}
use Rattle.limits.specs.declared.refusal.Refusal.{Refusal}
use Rattle.checks.proofs.Contents.{finds_track, finds_cost, finds_bare, finds_later}
use Rattle.checks.proofs.check_contents.Goals as goal

pub returns-then-bad_track : goal.returns-then-bad_track
returns-then-bad_track c =
    ap (λ (o : Option Refusal). answer o tt) (finds_track _ _ c.requires.at_value (sym c.bad_track.ensures ∙ c.if-bad_track.true))

pub returns-then-bad_cost : goal.returns-then-bad_cost
returns-then-bad_cost c =
    ap (λ (o : Option Refusal). answer o tt)
    (finds_cost _ _ c.requires.at_value (sym c.bad_track.ensures ∙ c.if-bad_track.false) (sym c.bad_cost.ensures ∙ c.if-bad_cost.true))

pub returns-then-at-eq0 : goal.returns-then-at-eq0
returns-then-at-eq0 c =
    ap (λ (o : Option Refusal). answer o tt)
    (finds_bare _ _ c.requires.at_value (sym c.bad_track.ensures ∙ c.if-bad_track.false) (sym c.bad_cost.ensures ∙ c.if-bad_cost.false) c.if-at-eq0.true)

pub returns : goal.returns
returns c =
    c.check_candidates.ensures
    ∙ ap (λ (l : Limits). answer (first_of (candidate_rules l c.args.bytes.now 0 c.args.at.candidates.count)) tt) c.limits_of-limits.ensures
    ∙ ap (λ (o : Option Refusal). answer o tt)
    (finds_later _ _ c.requires.at_value (sym c.bad_track.ensures ∙ c.if-bad_track.false) (sym c.bad_cost.ensures ∙ c.if-bad_cost.false) c.if-at-eq0.false)
