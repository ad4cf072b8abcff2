-- What a walk over the numbers of a record finds, by a test that says the same.
use Rattle.std.proofs.Common.{ℕ, Bool, List, [], not, ◌≡◌, ◌+◌, ◌*◌, ◌<◌, length, slice_index_or, take, drop, sym, refl, ap, ◌∙◌}
use Rattle.std.specs.List.{list_any}
use Rattle.std.specs.Int.{w32, w64, from_le_bytes}
use Rattle.std.specs.Float.{binary32, binary64}
use Rattle.std.specs.Float.Ieee.{of_bits}
use Rattle.ieee.specs.Range.{within}
use Rattle.laws.proofs.Lists.{any_folded}
use Rattle.limits.specs.Common.{million, durations}
use Rattle.record.specs.Conditions.{bad_scores, is_duration, bad_table}
use Rattle.record.proofs.Below.{any_walked}
use Rattle.record.proofs.Numbers.{u32_read, u64_read}

-- what `any_bad` ensures of its result, where the closure's are those of `bad`
abbrev pub Found : (List ℕ → Bool) → List (List ℕ) → Bool → Type 0
Found bad numbers r = (test : List ℕ → Bool) → ((number : List ℕ) (q : Bool) → q ≡ bad number → q ≡ test number) → r ≡ list_any test numbers

module _ (bytes : List ℕ) (start : ℕ) (numbers : List (List ℕ)) {r : Bool} where
  pub scores_walked : {entries : ℕ} → Found (λ number. not (within million (of_bits binary32 (from_le_bytes w32 number)))) numbers r
      → length numbers ≡ entries
      → ((i : ℕ) (d : List ℕ) → i < entries → slice_index_or numbers i d ≡ take 4 (drop (start + 4 * i) bytes))
      → r ≡ bad_scores bytes start entries
  scores_walked found len number =
      let bad = λ (bits : ℕ). not (within million (of_bits binary32 bits)) in
      let test = λ (n : List ℕ). bad (from_le_bytes w32 n) in
      found test (λ n q is. is) ∙ sym (any_folded test numbers) ∙ any_walked test _ [] numbers len (λ k h. ap bad (u32_read _ _ (number k [] h) refl))

  pub table_walked : Found (λ number. not (is_duration (of_bits binary64 (from_le_bytes w64 number)))) numbers r
      → length numbers ≡ durations
      → ((i : ℕ) (d : List ℕ) → i < durations → slice_index_or numbers i d ≡ take 8 (drop (start + 8 * i) bytes))
      → r ≡ bad_table bytes start
  table_walked found len number =
      let bad = λ (bits : ℕ). not (is_duration (of_bits binary64 bits)) in
      let test = λ (n : List ℕ). bad (from_le_bytes w64 n) in
      found test (λ n q is. is) ∙ sym (any_folded test numbers) ∙ any_walked test _ [] numbers len (λ k h. ap bad (u64_read _ _ (number k [] h) refl))
