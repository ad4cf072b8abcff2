-- Refusing in order: rules stand in a list, and the first whose condition holds gives its answer. What counts is the place in the list,
-- never what the answers are.
use Rattle.std.specs.Prelude.{Bool, cond, List, [], ◌∷◌}
use Rattle.std.proofs.Math.Option.{Option, none, some}

-- A rule: an answer, and whether the condition holds under which it is given.
pub record Rule (R : Type 0) : Type 0 where
  pub answer : R
  pub holds : Bool

abbrev pub rule : {R : Type 0} → R → Bool → Rule R
rule answer holds = record { answer = answer; holds = holds }

-- the answer of the first rule that holds; none where no rule does
unfoldable pub first_of : {R : Type 0} → List (Rule R) → Option R
first_of [] = none
first_of (r ∷ rs) = cond r.holds (some r.answer) (first_of rs)
