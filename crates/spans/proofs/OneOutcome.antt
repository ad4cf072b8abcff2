-- Each call of `tbu_spans` has exactly one outcome, answer and output, that meets its contract.
use Prim.Native.Nat.{ℕ}
use mathlib.Core.List.{List}
use mathlib.Core.Path.{◌≡◌, refl}
use lib.ListN.{length}
use Rattle.laws.specs.Inner.Each.{each_none, each_more}
use Rattle.laws.specs.Theory.OneOutcome.{ExactlyOne}
use Rattle.laws.proofs.OneOutcome.{with_buffer, one_alike}
use Rattle.std.specs.Prelude.{Result}
use Rattle.limits.specs.declared.refusal.Refusal.{Refusal}
use Rattle.frames.specs.Outcome.{outcome}
use Rattle.frames.proofs.Outcomes.{refusing, one_result}
use Rattle.spans.specs.Spans.{Answers, tbu_spans_of, spans_of, words_of, written}

module _ (nuclei bounds : List ℕ) (lo hi : ℕ) where
  right_answer : (room : ℕ) → ExactlyOne (λ (answer : Result ℕ Refusal). outcome answer ≡ tbu_spans_of nuclei bounds lo hi room)
  unfolding tbu_spans_of
  right_answer room = one_result _ _ (each_more (refusing 3 refl) (each_more (refusing 5 refl) (each_more (refusing 11 refl) each_none)))

  pub one_spans : (before : List ℕ) → ExactlyOne (λ (w : Result ℕ Refusal × List ℕ). Answers nuclei bounds lo hi before w.0 w.1)
  one_spans before =
      one_alike (λ w. (λ h. record { answered = h.0; output = h.1 }, λ h. (h.answered, h.output)))
      (with_buffer (right_answer (length before)) (λ (answer : Result ℕ Refusal). written (outcome answer) (words_of (spans_of nuclei bounds lo hi)) before))
