-- Each call of `joins` and of `creaky_tail` has exactly one outcome that meets its contract.
use Rattle.std.proofs.Common.{◌≡◌, ℕ, Bool, List, Option, Result, refl}
use Rattle.laws.specs.Inner.Each.{each_none, each_more}
use Rattle.laws.specs.Theory.OneOutcome.{ExactlyOne}
use Rattle.limits.specs.declared.refusal.Refusal.{Refusal}
use Rattle.frames.specs.Outcome.{outcome}
use Rattle.frames.proofs.Outcomes.{refusing, one_result}
use Rattle.evidence.specs.Joins.{joins_of}
use Rattle.evidence.specs.CreakyTail.{creaky_tail_of}
use Rattle.evidence.specs.declared.joins.Joined.{Joined}

pub one_joins :
    (voice pitched : List ℕ) (start end : ℕ) → ExactlyOne (λ (answer : Result Joined Refusal). outcome answer ≡ joins_of voice pitched start end)
unfolding joins_of
one_joins voice pitched start end = one_result _ _ (each_more (refusing 3 refl) (each_more (refusing 5 refl) each_none))

pub one_tail :
    (start end : ℕ) (next : Option ℕ) (pitched vowel : List ℕ) →
    ExactlyOne (λ (answer : Result Bool Refusal). outcome answer ≡ creaky_tail_of start end next pitched vowel)
unfolding creaky_tail_of
one_tail start end next pitched vowel = one_result _ _ (each_more (refusing 3 refl) (each_more (refusing 5 refl) each_none))
