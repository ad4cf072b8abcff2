-- What calls promise for which one equation does not say everything: the number that is returned, and what is then in the caller's memory
-- or what the number stands for.
use Rattle.std.specs.Prelude.{ℕ, List, ◌≡◌, ℤ, Float, length, Option, Result}
use Rattle.limits.specs.declared.refusal.Refusal.{Refusal}
use Rattle.rate.specs.Rate.{rate_of}
use Rattle.spans.specs.Spans.{tbu_spans_of, words_of, spans_of, written}
use Rattle.record.specs.Refusals.{refusal_with}
use Rattle.record.specs.Meaning.{phrase_of}
use Rattle.decoding.specs.Contract.{Decodes, outcome_of}
use Rattle.most_units.specs.Answers.{Answers, number_for}
use Rattle.tikuwero.specs.Status.{status, stored, stage_named, strictness_named}

-- `tikuwero_decode`: M; the answer that the number stands for, and all that is lent, are as decoding promises
pub record DecodeCall (bytes : List ℕ) (best : List Float) (back out : List ℕ) (returned : ℤ) (best' : List Float) (back' out' : List ℕ) : Type 0 where
  pub answer : Result ℕ Refusal
  pub decodes : Decodes bytes best back out answer best' back' out'
  pub number :
      returned ≡ status (λ (entries : ℕ). entries) (outcome_of (refusal_with bytes (length best) (length back) (length out)) (length (phrase_of bytes).candidates))

-- `tikuwero_rate_s`: 0, and the rate where the pointer leads
pub record RateCall (frames : List ℕ) (default before : Float) (returned : ℤ) (after : Float) : Type 0 where
  pub number : returned ≡ status (λ (seconds : Float). 0) (rate_of frames default)
  pub rate : after ≡ stored before (rate_of frames default)

-- `tikuwero_tbu_spans`: how many spans there are, and their words in the output
pub record SpansCall (nuclei bounds : List ℕ) (lo hi : ℕ) (before : List ℕ) (returned : ℤ) (after : List ℕ) : Type 0 where
  pub number : returned ≡ status (λ (spans : ℕ). spans) (tbu_spans_of nuclei bounds lo hi (length before))
  pub output : after ≡ written (tbu_spans_of nuclei bounds lo hi (length before)) (words_of (spans_of nuclei bounds lo hi)) before

-- `tikuwero_most_units`: the number of the answer
pub record MostUnitsCall (bytes : List ℕ) (stage strict : ℕ) (returned : ℤ) : Type 0 where
  pub answer : Result (Option ℕ) Refusal
  pub answers : Answers bytes (stage_named stage) (strictness_named strict) answer
  pub number : returned ≡ number_for answer
