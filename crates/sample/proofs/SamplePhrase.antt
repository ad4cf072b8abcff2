-- Document 01's sample phrase, by computation: the record is accepted and means the phrase described, and one byte changed has it
-- refused by the number that the change calls for.
use Prim.Native.Nat.{ℕ, ◌+◌}
use mathlib.Core.Bool.{true, false, not, ◌&&◌}
use mathlib.Core.List.{List, [], ◌∷◌}
use mathlib.Core.Option.{Option, none, some}
use mathlib.Core.Path.{◌≡◌, refl}
use lib.Dec.{eqb}
use lib.ListN.{length, replicate, set, take}
use lib.IntN.{pos, negsuc}
use lib.Count.{count_trailing_zeros}
use lib.Ieee.{fin, le, lt, eq, neg, of_int, round, size, span, climb, units, odd, of_bits, of_fields}
use Rattle.laws.specs.Listed.{listed}
use Rattle.laws.specs.Rules.{first_of}
use Rattle.phrase.specs.Phrase.{Phrase, spoken}
use Rattle.limits.specs.Edition.{numbers_of}
use Rattle.record.specs.Bytes.{u32_at, u64_at}
use Rattle.record.specs.Below.{any_below}
use Rattle.record.specs.Layout.{trailer_of, layout_from, layout_of}
use Rattle.limits.specs.Common.{shortest_unit, durations}
use Rattle.record.specs.Conditions.{oversized, overreaching, bad_track, bad_cost}
use Rattle.record.specs.Refusals.{trailer_rules, content_rules, first_rules, candidate_rules, own_rules, refusal_of, refusal_with}
use Rattle.record.specs.Meaning.{phrase_at, phrase_of}
use Rattle.sample.specs.Sample.{sample}
use Rattle.limits.specs.declared.refusal.Refusal.{Refusal}
use Rattle.limits.specs.declared.refusal.Refusal.TheVariants.{Stub, Edition, Size, Reach, Track, Cost, Bare, Twice, Units, Column, Desk}

pub long : length sample ≡ 1376
unfolding sample
long = refl

-- what the theorems below compute with
checks : List ℕ → Option Refusal
unfolding refusal_of first_of own_rules first_rules trailer_rules content_rules candidate_rules layout_of layout_from trailer_of sample u32_at u64_at any_below oversized overreaching bad_track bad_cost le lt eq neg of_int round size span climb units odd of_bits of_fields count_trailing_zeros numbers_of
checks bytes = refusal_of bytes

means : List ℕ → Phrase
unfolding phrase_of phrase_at layout_of layout_from trailer_of sample u32_at u64_at listed of_bits of_fields odd count_trailing_zeros any_below eq numbers_of
means bytes = phrase_of bytes

-- no rule refuses it
pub accepted : refusal_of sample ≡ none
unfolding checks
accepted = refl

-- ---- what it means

-- "Mask of 20 ones; nucleus 7; boundaries 4, 14; A = D = 0"
pub mask : (phrase_of sample).mask ≡ replicate 20 1
unfolding means
mask = refl

pub nuclei : (phrase_of sample).nuclei.anchors ≡ 7 ∷ []
unfolding means
nuclei = refl

pub boundaries : (phrase_of sample).nuclei.boundaries ≡ 4 ∷ 14 ∷ []
unfolding means
boundaries = refl

pub anchors : (phrase_of sample).added.anchors ≡ []
unfolding means
anchors = refl

pub added_boundaries_law : (phrase_of sample).added.boundaries ≡ []
unfolding means
added_boundaries_law = refl

-- "C = 1, score 3"
pub columns : (layout_of sample).scores.count ≡ 1
unfolding means
columns = refl

pub score : (phrase_of sample).score 0 0 ≡ fin false 3 (pos 0)
unfolding means
score = refl

-- "per_frame 0.5; insertion_llr −2; unvoiced −4"
pub costs : (phrase_of sample).costs ≡ record { per_frame = fin false 1 (negsuc 0); insertion_llr = fin true 1 (pos 1); unvoiced = fin true 1 (pos 2) }
unfolding means
costs = refl

-- "speech 4 to 14"
pub speech : (phrase_of sample).speech ≡ spoken 4 14
unfolding means
speech = refl

-- "duration entry for 10 frames −0.25, others 0"
pub duration_ten : (phrase_of sample).nuclei.duration 10 ≡ fin true 1 (negsuc 1)
unfolding means
duration_ten = refl

pub other_durations : any_below (λ i. not (eqb (shortest_unit + i) 10) && not (eq ((phrase_of sample).nuclei.duration (shortest_unit + i)) (fin false 0 (pos 0)))) durations ≡ false
unfolding means
other_durations = refl

-- "Candidates 9 (two units), then 3 (one), all column 0"
pub candidates : (phrase_of sample).candidates ≡ record { id = 9; columns = 0 ∷ 0 ∷ [] } ∷ record { id = 3; columns = 0 ∷ [] } ∷ []
unfolding means
candidates = refl

-- ---- what one byte changes

-- its first 63 bytes
pub cut : refusal_of (take 63 sample) ≡ some Stub
unfolding checks
cut = refl

-- edition 2
pub second_edition : refusal_of (set sample 1312 2) ≡ some Edition
unfolding checks
second_edition = refl

-- C = 0
pub no_column : refusal_of (set sample 1356 0) ≡ some Size
unfolding checks
no_column = refl

-- D = 1 with A = 0
pub added_boundary_alone : refusal_of (set sample 1348 1) ≡ some Size
unfolding checks
added_boundary_alone = refl

-- a mask pointer of 1,313, one more than the bytes before the trailer
pub before_the_record : refusal_of (set sample 1320 33) ≡ some Reach
unfolding checks
before_the_record = refl

-- a mask byte of 2
pub half_voiced : refusal_of (set sample 3 2) ≡ some Track
unfolding checks
half_voiced = refl

-- boundaries 4, 4
pub equal_boundaries : refusal_of (set sample 28 4) ≡ some Track
unfolding checks
equal_boundaries = refl

-- a speech start of 4,294,967,295, and an end of 14
pub start_alone : refusal_of (set (set (set (set sample 104 255) 105 255) 106 255) 107 255) ≡ some Track
unfolding checks
start_alone = refl

-- a speech end of 4,294,967,295, and a start of 4
pub end_alone : refusal_of (set (set (set (set sample 108 255) 109 255) 110 255) 111 255) ≡ some Track
unfolding checks
end_alone = refl

-- a score of 2.55 × 10^38
pub huge_score : refusal_of (set sample 35 127) ≡ some Cost
unfolding checks
huge_score = refl

-- M = 0
pub no_candidate : refusal_of (set sample 1364 0) ≡ some Bare
unfolding checks
no_candidate = refl

-- ids 9 and 9
pub same_id : refusal_of (set sample 60 9) ≡ some Twice
unfolding checks
same_id = refl

-- 17 units
pub seventeen_units : refusal_of (set sample 40 17) ≡ some Units
unfolding checks
seventeen_units = refl

-- column 1 of one column
pub second_column : refusal_of (set sample 44 1) ≡ some Column
unfolding checks
second_column = refl

-- ---- "tested candidate by candidate"

-- column 1 in the first candidate, and its id again in the second: 10, not 8
pub first_candidate_first : refusal_of (set (set sample 44 1) 60 9) ≡ some Column
unfolding checks
first_candidate_first = refl

-- within one candidate, its id again and 17 units: 8, not 9
pub id_first : refusal_of (set (set sample 60 9) 64 17) ≡ some Twice
unfolding checks
id_first = refl

-- ---- lent buffers

-- work areas of 1,088 cells and an output of 2 × 54 words do
pub room_enough : refusal_with sample 1088 1088 108 ≡ none
unfolding checks refusal_with numbers_of
room_enough = refl

-- one element fewer in the first work area, in the second, in the output
pub short_best : refusal_with sample 1087 1088 108 ≡ some Desk
unfolding checks refusal_with numbers_of
short_best = refl

pub short_back : refusal_with sample 1088 1087 108 ≡ some Desk
unfolding checks refusal_with numbers_of
short_back = refl

pub short_out : refusal_with sample 1088 1088 107 ≡ some Desk
unfolding checks refusal_with numbers_of
short_out = refl

-- with no buffers at all, the record's own refusal comes first
pub record_first : refusal_with (set sample 44 1) 0 0 0 ≡ some Column
unfolding checks refusal_with numbers_of
record_first = refl
