-- Both words at their greatest mean no speech.
use mathlib.Core.Path.{refl, sym, ap, ap₂, ◌∙◌}
use mathlib.Core.Bool.{◌&&◌}
use Prim.Native.Nat.{ℕ}
use lib.Dec.{eqb}
use Rattle.laws.proofs.Choices.{taken, passed}
use Rattle.phrase.specs.Phrase.{Phrase, spoken}
use Rattle.record.specs.Meaning.{phrase_at}
use Rattle.limits.specs.Common.{absent}
use Rattle.record.proofs.Accepted.{meaning}
use Rattle.reading.proofs.accepted.AcceptedRecord.speech.Goals as goal

pub returns-then-start-end : goal.returns-then-start-end
unfolding phrase_at
returns-then-start-end c =
    taken _ (ap₂ (λ (s e : ℕ). eqb s absent && eqb e absent) (sym c.u32_at-start.ensures) (sym c.u32_at-end.ensures) ∙ c.if-start-end.true)
    ∙ ap (λ (p : Phrase). p.speech) (meaning c.args.self.now.laid)

pub returns-else-start-end : goal.returns-else-start-end
unfolding phrase_at
returns-else-start-end c =
    ap₂ spoken c.u32_at-start.ensures c.u32_at-end.ensures
    ∙ passed _ (ap₂ (λ (s e : ℕ). eqb s absent && eqb e absent) (sym c.u32_at-start.ensures) (sym c.u32_at-end.ensures) ∙ c.if-start-end.false) refl
    ∙ ap (λ (p : Phrase). p.speech) (meaning c.args.self.now.laid)
