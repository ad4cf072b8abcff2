-- What the laws of rules say of a list in which 13 stands between 4 and 5, whatever its conditions are.
use Prim.Native.Nat.{ℕ}
use mathlib.Core.Bool.{Bool, true, false}
use mathlib.Core.List.{List, [], ◌∷◌, ◌++◌}
use mathlib.Core.Option.{some}
use mathlib.Core.Path.{◌≡◌, refl}
use borrow.Author.Tests.{eqb-false}
use Rattle.laws.specs.Inner.Each.{Each, each_none, each_more}
use Rattle.laws.specs.Rules.{Rule, rule, first_of}
use Rattle.laws.proofs.Rules.{Fails, given_under, none_exactly, first_speaks, second_speaks, passed_over}

abbrev early : Bool → Bool → List (Rule ℕ)
early a b = rule 4 a ∷ rule 13 b ∷ []

abbrev rules : Bool → Bool → Bool → List (Rule ℕ)
rules a b c = early a b ++ (rule 5 c ∷ [])

-- of two that hold the first gives its number, though it is the larger
pub place_counts : first_of (rules false true true) ≡ some 13
unfolding first_of
place_counts = refl

module _ (a b c : Bool) where
  -- 13 is given under its own condition
  pub thirteen_holds : first_of (rules a b c) ≡ some 13 → b ≡ true
  thirteen_holds e =
      given_under {P = λ (n : ℕ). n ≡ 13 → b ≡ true} (rules a b c)
      (each_more (record { says = λ held same. absurd (eqb-false 4 13 refl same) })
      (each_more (record { says = λ held same. held })
      (each_more (record { says = λ held same. absurd (eqb-false 5 13 refl same) }) each_none)))
      e refl

  -- 5 only where neither 4 nor 13 holds, which stand before it
  pub five_alone : first_of (rules a b c) ≡ some 5 → (a ≡ false) × (b ≡ false)
  five_alone e =
      both
      (passed_over (early a b) (rule 5 c ∷ [])
      (each_more (record { other = eqb-false 4 5 refl }) (each_more (record { other = eqb-false 13 5 refl }) each_none))
      e).0
    where
      both : Each Fails (early a b) → (a ≡ false) × (b ≡ false)
      both (each_more f (each_more g each_none)) = (f.not_held, g.not_held)

  -- 11, put after them, is given where it holds and none of them does
  pub eleven_last : Each Fails (rules a b c) → first_of (rules a b c ++ (rule 11 true ∷ [])) ≡ some 11
  unfolding first_of
  eleven_last none_held = second_speaks (rules a b c) (rule 11 true ∷ []) ((none_exactly (rules a b c)).1 none_held)

  -- and changes nothing that they say
  pub eleven_silent : (n : ℕ) (short : Bool) → first_of (rules a b c) ≡ some n → first_of (rules a b c ++ (rule 11 short ∷ [])) ≡ some n
  eleven_silent n short e = first_speaks (rules a b c) (rule 11 short ∷ []) e
