-- Each call from C has exactly one outcome that meets its contract: the number returned, and what is then in the caller's memory.
use Prim.Native.Nat.{ℕ}
use mathlib.Core.List.{List}
use mathlib.Core.Path.{◌≡◌, refl, sym, ap, ◌∙◌}
use lib.IntN.{ℤ}
use lib.Ieee.{Float}
use lib.ListN.{length}
use Rattle.laws.specs.Theory.OneOutcome.{ExactlyOne}
use Rattle.laws.proofs.OneOutcome.{one_value, with_buffer, one_alike}
use Rattle.rate.specs.Rate.{rate_of}
use Rattle.spans.specs.Spans.{tbu_spans_of, words_of, spans_of, written}
use Rattle.evidence.specs.Joins.{joins_of}
use Rattle.evidence.specs.CreakyTail.{creaky_tail_of}
use Rattle.decoding.proofs.OneOutcome.{some_outcome, one_outcome, together}
use Rattle.most_units.specs.Answers.{number_for}
use Rattle.most_units.proofs.OneAnswer.{one_answer}
use Rattle.tikuwero.specs.Status.{status, stored, flag, edge_flags, frame_of, stage_named, strictness_named}
use Rattle.tikuwero.specs.Calls.{DecodeCall, RateCall, SpansCall, MostUnitsCall}

pub one_decode_call :
    (bytes : List ℕ) (best : List Float) (back out : List ℕ) →
    ExactlyOne (λ (w : ℤ × List Float × List ℕ × List ℕ). DecodeCall bytes best back out w.0 w.1 w.2 w.3)
one_decode_call bytes best back out =
    let there = some_outcome bytes best back out in
    record {
      some_outcome = ((_, there.1, there.2, there.3), record { answer = there.0; decodes = there.4; number = refl });
      one_outcome =
          λ v w p q.
          let same = one_outcome bytes best back out p.decodes q.decodes in
          together (p.number ∙ sym q.number) same.values same.marks same.words;
    }

pub one_rate_call :
    (frames : List ℕ) (default before : Float) → ExactlyOne (λ (w : ℤ × Float). RateCall frames default before w.0 w.1)
one_rate_call frames default before =
    one_alike (λ w. (λ h. record { number = h.0; rate = h.1 }, λ h. (h.number, h.rate)))
    (with_buffer (one_value (status (λ (seconds : Float). 0) (rate_of frames default))) (λ (returned : ℤ). stored before (rate_of frames default)))

pub one_spans_call :
    (nuclei bounds : List ℕ) (lo hi : ℕ) (before : List ℕ) →
    ExactlyOne (λ (w : ℤ × List ℕ). SpansCall nuclei bounds lo hi before w.0 w.1)
one_spans_call nuclei bounds lo hi before =
    let right = tbu_spans_of nuclei bounds lo hi (length before) in
    one_alike (λ w. (λ h. record { number = h.0; output = h.1 }, λ h. (h.number, h.output)))
    (with_buffer (one_value (status (λ (spans : ℕ). spans) right)) (λ (returned : ℤ). written right (words_of (spans_of nuclei bounds lo hi)) before))

pub one_joins_call :
    (voice pitched : List ℕ) (start end : ℕ) → ExactlyOne (λ (returned : ℤ). returned ≡ status edge_flags (joins_of voice pitched start end))
one_joins_call voice pitched start end = one_value (status edge_flags (joins_of voice pitched start end))

pub one_tail_call :
    (start end next : ℕ) (pitched vowel : List ℕ) →
    ExactlyOne (λ (returned : ℤ). returned ≡ status flag (creaky_tail_of start end (frame_of next) pitched vowel))
one_tail_call start end next pitched vowel = one_value (status flag (creaky_tail_of start end (frame_of next) pitched vowel))

pub one_most_units_call : (bytes : List ℕ) (stage strict : ℕ) → ExactlyOne (λ (returned : ℤ). MostUnitsCall bytes stage strict returned)
one_most_units_call bytes stage strict =
    let one = one_answer bytes (stage_named stage) (strictness_named strict) in
    record {
      some_outcome = (_, record { answer = one.some_outcome.0; answers = one.some_outcome.1; number = refl });
      one_outcome =
          λ v w p q. p.number ∙ ap number_for (one.one_outcome p.answer q.answer p.answers q.answers) ∙ sym q.number;
    }
