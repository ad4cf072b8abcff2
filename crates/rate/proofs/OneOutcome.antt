-- Each call of `rate_s` has exactly one outcome that meets its contract; and 6 is given only where neither 3 nor 5 applies.
use Prim.Native.Nat.{ℕ}
use mathlib.Core.Bool.{false}
use mathlib.Core.List.{List, [], ◌∷◌}
use mathlib.Core.Path.{◌≡◌, refl}
use borrow.Author.Tests.{eqb-false}
use lib.Dec.{ltb}
use lib.Ieee.{Float}
use lib.ListN.{length}
use Rattle.laws.specs.Inner.Each.{Each, each_none, each_more}
use Rattle.laws.specs.Rules.{Rule, rule}
use Rattle.laws.specs.Theory.OneOutcome.{ExactlyOne}
use Rattle.std.specs.Prelude.{Result}
use Rattle.limits.specs.Common.{last_frame}
use Rattle.limits.specs.declared.refusal.Refusal.{Refusal}
use Rattle.laws.proofs.Rules.{Fails, passed_over}
use Rattle.frames.specs.Outcome.{refused, outcome, any_above, most_frames}
use Rattle.frames.proofs.Outcomes.{refusing, refuses_exactly, one_result}
use Rattle.rate.specs.Rate.{rate_of}

pub one_rate : (frames : List ℕ) (default : Float) → ExactlyOne (λ (answer : Result Float Refusal). outcome answer ≡ rate_of frames default)
unfolding rate_of
one_rate frames default = one_result _ _ (each_more (refusing 3 refl) (each_more (refusing 5 refl) (each_more (refusing 6 refl) each_none)))

-- the two rules that stand before 6
abbrev early : List ℕ → List (Rule ℕ)
early frames = rule 3 (ltb most_frames (length frames)) ∷ rule 5 (any_above last_frame frames) ∷ []

pub six_last : (frames : List ℕ) (default : Float) → rate_of frames default ≡ refused 6
    → (ltb most_frames (length frames) ≡ false) × (any_above last_frame frames ≡ false)
unfolding rate_of
six_last frames default e =
    both
    (passed_over (early frames) _
    (each_more (record { other = eqb-false 3 6 refl }) (each_more (record { other = eqb-false 5 6 refl }) each_none))
    ((refuses_exactly _ _ 6).0 e)).0
  where
    both : Each Fails (early frames) → (ltb most_frames (length frames) ≡ false) × (any_above last_frame frames ≡ false)
    both (each_more f (each_more g each_none)) = (f.not_held, g.not_held)
