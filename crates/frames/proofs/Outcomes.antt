-- What an entry with rules answers: rule by rule, as code tests them; what each answer says of the rules; and that one answer is right.
use Prim.Native.Nat.{ℕ}
use mathlib.Core.Bool.{Bool, true, false, true≢false}
use mathlib.Core.List.{List, [], ◌∷◌}
use mathlib.Core.Logic.{◌↔◌}
use mathlib.Core.Option.{Option, none, some}
use mathlib.Core.Path.{◌≡◌, refl, sym, ap, ◌∙◌}
use Rattle.laws.specs.Inner.Each.{Each, each_none, each_more}
use Rattle.laws.specs.Rules.{Rule, rule, first_of}
use Rattle.laws.specs.Theory.OneOutcome.{ExactlyOne}
use Rattle.laws.proofs.Rules.{Says, given_under}
use Rattle.laws.proofs.OneOutcome.{one_meaning}
use Rattle.std.specs.Prelude.{Result, Ok, Err}
use Rattle.limits.specs.Refusals.{number_of}
use Rattle.limits.specs.declared.refusal.Refusal.{Refusal}
use Rattle.limits.proofs.Named.{named, named_number}
use Rattle.frames.specs.Outcome.{Outcome, accepted, refused, outcome, unless, checked}

-- ---- rule by rule

-- one that holds refuses
pub refuses : {A : Type 0} {n : ℕ} {b : Bool} (rs : List (Rule ℕ)) (a : A) → b ≡ true → refused n ≡ checked (rule n b ∷ rs) a
unfolding first_of
refuses rs a e = rw e

-- one that does not hold leaves the others
pub leaves : {A : Type 0} (n : ℕ) {b : Bool} (rs : List (Rule ℕ)) (a : A) {o : Outcome A} → b ≡ false → o ≡ checked rs a → o ≡ checked (rule n b ∷ rs) a
unfolding first_of
leaves n rs a e h = rw e h

-- after the last one the values are the answer
pub answers : {A : Type 0} {a b : A} → a ≡ b → accepted a ≡ checked [] b
unfolding first_of
answers e = ap accepted e

-- ---- both ways

-- a rule whose number is that of a refusal
pub refusing : (n : ℕ) {b : Bool} → number_of (named n) ≡ n → Says (λ (m : ℕ). number_of (named m) ≡ m) (rule n b)
refusing n e = record { says = λ held. e }

-- what each rule says of its number, it says by way of what follows from that
each_says : {P Q : ℕ → Type 0} → ((n : ℕ) → P n → Q n) → {rules : List (Rule ℕ)} → Each (Says P) rules → Each (Says Q) rules
each_says follows each_none = each_none
each_says follows (each_more {x = r} s ss) = each_more (record { says = λ held. follows r.answer (s.says held) }) (each_says follows ss)

module _ {A : Type 0} where
  unfoldable was_refused : Outcome A → Bool
  was_refused (accepted a) = false
  was_refused (refused n) = true

  unfoldable number_or : ℕ → Outcome A → ℕ
  number_or other (accepted a) = other
  number_or other (refused n) = n

  unfoldable value_or : A → Outcome A → A
  value_or other (accepted a) = a
  value_or other (refused n) = other

  refused_by_law : (o : Option ℕ) (a : A) {n : ℕ} → unless o a ≡ refused n → o ≡ some n
  unfolding was_refused number_or
  refused_by_law none a e = absurd (true≢false (sym (ap was_refused e)))
  refused_by_law (some m) a e = ap some (ap (number_or m) e)

  accepted_by : (o : Option ℕ) (a : A) {b : A} → unless o a ≡ accepted b → (o ≡ none) × (a ≡ b)
  unfolding was_refused value_or
  accepted_by none a e = (refl, ap (value_or a) e)
  accepted_by (some m) a e = absurd (true≢false (ap was_refused e))

  -- the Result with an outcome's value or number
  abbrev pub answer_of : Outcome A → Result A Refusal
  answer_of (accepted a) = Ok a
  answer_of (refused n) = Err (named n)

  pub answer_known : (answer : Result A Refusal) → answer_of (outcome answer) ≡ answer
  answer_known (Ok a) = refl
  answer_known (Err refusal) = ap Err (named_number refusal)

  module _ (rules : List (Rule ℕ)) (a : A) where
    -- an entry refuses by a number exactly where its rules give that number
    pub refuses_exactly : (n : ℕ) → (checked rules a ≡ refused n) ↔ (first_of rules ≡ some n)
    refuses_exactly n = (refused_by_law (first_of rules) a, ap (λ (o : Option ℕ). unless o a))

    -- and accepts, with its values, exactly where they give none
    pub accepts_exactly : (b : A) → (checked rules a ≡ accepted b) ↔ ((first_of rules ≡ none) × (a ≡ b))
    accepts_exactly b = (
      accepted_by (first_of rules) a,
      λ h. ap (λ (o : Option ℕ). unless o a) h.0 ∙ ap accepted h.1,
    )

    -- where each rule's number is that of an answer, and an answer is known by its number and value, exactly one answer is right
    pub one_answer :
        {B : Type 0} (outcome : B → Outcome A) (given : Outcome A → B) → ((answer : B) → given (outcome answer) ≡ answer) →
        Each (Says (λ (n : ℕ). outcome (given (refused n)) ≡ refused n)) rules → outcome (given (accepted a)) ≡ accepted a →
        ExactlyOne (λ (answer : B). outcome answer ≡ checked rules a)
    one_answer outcome given known numbers value = one_meaning outcome given known (checked rules a) (go (first_of rules) refl)
      where
        go : (o : Option ℕ) → first_of rules ≡ o → outcome (given (unless o a)) ≡ unless o a
        go none e = value
        go (some n) e = given_under rules numbers e

    -- so where each rule's number is that of a refusal, exactly one Result is right
    pub one_result : Each (Says (λ (n : ℕ). number_of (named n) ≡ n)) rules → ExactlyOne (λ (answer : Result A Refusal). outcome answer ≡ checked rules a)
    one_result numbers = one_answer outcome answer_of answer_known (each_says (λ n. ap refused) numbers) refl
