-- What is answered when the most units are asked for (document 02, Ask 1), on every call, and the number of each answer.
use Rattle.std.specs.Prelude.{ℕ, List, [], ◌≡◌, ℤ, pos, neg_ℤ, Option, Some, None, Result, Ok, Err}
use Rattle.std.proofs.Math.Option.{none, some}
use Rattle.record.specs.Layout.{limits_of}
use Rattle.record.specs.Meaning.{phrase_of, stage_of}
use Rattle.limits.specs.Refusals.{number_of}
use Rattle.record.specs.Refusals.{refusal_of}
use Rattle.record.specs.declared.read.Which.{Which}
use Rattle.limits.specs.declared.refusal.Refusal.{Refusal}
use Rattle.paths.specs.declared.passes.Strictness.{Strictness}
use Rattle.most_units.specs.Most.{paths_of, Most}

-- The answer for a stage and a strictness of a record. "The record is checked as for decoding, without 11."
pub data Answers (bytes : List ℕ) (which : Which) (strictness : Strictness) : Result (Option ℕ) Refusal → Type 0 where
  -- by the number that the record's own rules give,
  is_refused : {refusal : Refusal} → refusal_of bytes ≡ some refusal → Answers bytes which strictness (Err refusal)
  -- "'no path' where the stage has no boundaries",
  no_boundary :
      refusal_of bytes ≡ none → (stage_of which (phrase_of bytes)).boundaries ≡ [] → Answers bytes which strictness (Ok None)
  -- and else the count, under the cap of the record's edition.
  is_counted :
      {units : ℕ} →
      refusal_of bytes ≡ none → Most (paths_of (phrase_of bytes) (stage_of which (phrase_of bytes)) strictness) (limits_of bytes).units units →
      Answers bytes which strictness (Ok (Some units))

-- The number that "no path" is returned as: the highest i32, which no count is.
abbrev pub no_path_number : ℕ
no_path_number = 2147483647

-- "A refusal returns its number only" (document 01): here, as for every call, minus that number.
abbrev pub number_for : Result (Option ℕ) Refusal → ℤ
number_for (Ok None) = pos no_path_number
number_for (Ok (Some units)) = pos units
number_for (Err refusal) = neg_ℤ (pos (number_of refusal))
