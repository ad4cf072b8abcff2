-- Contracts that exactly one outcome meets, by their shape: what is returned, and what is left in a lent buffer, is fixed by an equation.
use mathlib.Core.Logic.{◌↔◌}
use mathlib.Core.Path.{◌≡◌, refl, sym, ap, ap₂, ◌∙◌}
use Rattle.laws.specs.Theory.OneOutcome.{ExactlyOne}

-- the outcome is a given value
pub one_value : {A : Type 0} (x : A) → ExactlyOne (λ (a : A). a ≡ x)
one_value x = record { some_outcome = (x, refl); one_outcome = λ a b p q. p ∙ sym q }

-- an answer is known by its meaning, and the meaning is a given one that some answer has
pub one_meaning :
    {A B : Type 0} (meaning : A → B) (given : B → A) → ((a : A) → given (meaning a) ≡ a) → (x : B) → meaning (given x) ≡ x →
    ExactlyOne (λ (a : A). meaning a ≡ x)
one_meaning meaning given known x there =
    record { some_outcome = (given x, there); one_outcome = λ a b p q. sym (known a) ∙ ap given (p ∙ sym q) ∙ known b }

-- besides an answer that is fixed, a buffer is left as the answer says
pub with_buffer :
    {A B : Type 0} {Meets : A → Type 0} → ExactlyOne Meets → (left : A → B) → ExactlyOne (λ (w : A × B). Meets w.0 × (w.1 ≡ left w.0))
with_buffer {A} {B} one left =
    record {
      some_outcome = ((one.some_outcome.0, left one.some_outcome.0), (one.some_outcome.1, refl));
      one_outcome =
          λ v w p q.
          let same = one.one_outcome v.0 w.0 p.0 q.0 in
          ap₂ (λ (a : A) (b : B). (a, b)) same (p.1 ∙ ap left same ∙ sym q.1);
    }

-- two contracts that say the same
pub one_alike : {A : Type 0} {Meets Also : A → Type 0} → ((a : A) → Meets a ↔ Also a) → ExactlyOne Meets → ExactlyOne Also
one_alike same one =
    record {
      some_outcome = (one.some_outcome.0, (same one.some_outcome.0).0 one.some_outcome.1);
      one_outcome = λ a b p q. one.one_outcome a b ((same a).1 p) ((same b).1 q);
    }
