use Rattle.std.proofs.Common.{Bool, ap₂}
use Rattle.frames.proofs.Outcomes.{refuses, leaves, answers}
use Rattle.evidence.specs.Joins.{joins_of}
use Rattle.evidence.specs.declared.joins.Joined.{Joined}
use Rattle.evidence.proofs.joins.joins.Goals as goal

pub returns-then-voice-pitched : goal.returns-then-voice-pitched
unfolding joins_of
returns-then-voice-pitched c = refuses _ _ c.if-voice-pitched.true

pub returns-then-any_above-start : goal.returns-then-any_above-start
unfolding joins_of
returns-then-any_above-start c = leaves _ _ _ c.if-voice-pitched.false (refuses _ _ (rw (c.any_above.ensures, c.any_above-2.ensures) at c.if-any_above-start.true))

abbrev joined_edges : Bool → Bool → Joined
joined_edges s e = record { start = s; end = e }

pub returns : goal.returns
unfolding joins_of
returns c =
    let fit = rw (c.any_above.ensures, c.any_above-2.ensures) at c.if-any_above-start.false in
    leaves _ _ _ c.if-voice-pitched.false (leaves _ _ _ fit (answers (ap₂ joined_edges c.is_joined.ensures c.is_joined-2.ensures)))
