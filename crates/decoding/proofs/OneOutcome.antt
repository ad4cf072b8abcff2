-- Each call has exactly one outcome that meets the contract. There is one, so that it asks nothing impossible; and two that meet it are
-- the same, in the answer and in every lent buffer, so that it leaves nothing open.
use Prim.Native.Nat.{ℕ}
use mathlib.Core.List.{List}
use mathlib.Core.Option.{Option, none, some}
use mathlib.Core.Path.{◌≡◌, refl, sym, ap, ap₂, ◌∙◌}
use lib.ListN.{length}
use lib.Ieee.{Float}
use Rattle.std.specs.Prelude.{Result, Ok, Err}
use Rattle.laws.specs.Theory.OneOutcome.{ExactlyOne}
use Rattle.frames.specs.Outcome.{Outcome, accepted, refused, outcome}
use Rattle.record.specs.Refusals.{refusal_with}
use Rattle.limits.specs.declared.refusal.Refusal.{Refusal}
use Rattle.record.specs.Meaning.{phrase_of}
use Rattle.limits.proofs.Named.{named, named_number}
use Rattle.decoding.specs.Contract.{Decodes}
use Rattle.decoding.proofs.Decodes.{decodes_refused, decodes_accepted}

-- ---- an answer is known by its number and value

abbrev given : Outcome ℕ → Result ℕ Refusal
given (accepted count) = Ok count
given (refused number) = Err (named number)

given_outcome : (answer : Result ℕ Refusal) → given (outcome answer) ≡ answer
given_outcome (Ok count) = refl
given_outcome (Err q) = ap Err (named_number q)

-- ---- the outcomes of a call

pub record Same (answer answer' : Result ℕ Refusal) (best best' : List Float) (back back' out out' : List ℕ) : Type 0 where
  pub answers : answer ≡ answer'
  pub values : best ≡ best'
  pub marks : back ≡ back'
  pub words : out ≡ out'

pub one_outcome :
    (bytes : List ℕ) (best : List Float) (back out : List ℕ) {a₁ a₂ : Result ℕ Refusal} {best₁ best₂ : List Float} {back₁ back₂ out₁ out₂ : List ℕ} →
    Decodes bytes best back out a₁ best₁ back₁ out₁ → Decodes bytes best back out a₂ best₂ back₂ out₂
    → Same a₁ a₂ best₁ best₂ back₁ back₂ out₁ out₂
one_outcome bytes best back out {a₁} {a₂} {best₁} {best₂} {back₁} {back₂} {out₁} {out₂} one two =
    go (refusal_with bytes (length best) (length back) (length out)) refl
  where
    answers : a₁ ≡ a₂
    answers = sym (given_outcome a₁) ∙ ap given (one.answered ∙ sym two.answered) ∙ given_outcome a₂

    go : (o : Option Refusal) → refusal_with bytes (length best) (length back) (length out) ≡ o
        → Same a₁ a₂ best₁ best₂ back₁ back₂ out₁ out₂
    go none e =
        let w = one.accepts e in
        let v = two.accepts e in
        record {
          answers = answers;
          values = w.values ∙ sym v.values;
          marks = w.marks ∙ sym v.marks;
          words = w.words ∙ sym v.words;
        }
    go (some q) e =
        let w = one.refuses q e in
        let v = two.refuses q e in
        record {
          answers = answers;
          values = w.values ∙ sym v.values;
          marks = w.marks ∙ sym v.marks;
          words = w.words ∙ sym v.words;
        }

pub some_outcome :
    (bytes : List ℕ) (best : List Float) (back out : List ℕ) →
    (answer : Result ℕ Refusal) × (best' : List Float) × (back' : List ℕ) × (out' : List ℕ) × Decodes bytes best back out answer best' back' out'
some_outcome bytes best back out = go (refusal_with bytes (length best) (length back) (length out)) refl
  where
    go :
        (o : Option Refusal) → refusal_with bytes (length best) (length back) (length out) ≡ o →
        (answer : Result ℕ Refusal) × (best' : List Float) × (back' : List ℕ) × (out' : List ℕ) × Decodes bytes best back out answer best' back' out'
    go none e = (Ok (length (phrase_of bytes).candidates), _, _, _, decodes_accepted bytes best back out _ e refl refl refl refl)
    go (some q) e = (Err q, best, back, out, decodes_refused bytes best back out q e)

-- ---- both as one statement

pub together : {A B C D : Type 0} {a a' : A} {b b' : B} {c c' : C} {d d' : D} → a ≡ a' → b ≡ b' → c ≡ c' → d ≡ d'
    → ◌≡◌ {A = A × B × C × D} (a, b, c, d) (a', b', c', d')
together {a = a} {a'} {b} {b'} {c} {c'} {d} p q r s =
    ap₂ (λ x y. (x, y, c, d)) p q ∙ ap₂ (λ z w. (a', b', z, w)) r s

-- of the answer, the work areas and the output
pub exactly_one :
    (bytes : List ℕ) (best : List Float) (back out : List ℕ) →
    ExactlyOne (λ (w : Result ℕ Refusal × List Float × List ℕ × List ℕ). Decodes bytes best back out w.0 w.1 w.2 w.3)
exactly_one bytes best back out =
    let there = some_outcome bytes best back out in
    record {
      some_outcome = ((there.0, there.1, there.2, there.3), there.4);
      one_outcome =
          λ v w p q. let same = one_outcome bytes best back out p q in together same.answers same.values same.marks same.words;
    }
