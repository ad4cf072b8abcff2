-- Worked examples of the full sum beside the clamped score (document 02, Ask 2), as words.
use Prim.Native.Nat.{ℕ}
use mathlib.Core.Bool.{true, false}
use mathlib.Core.List.{List, [], ◌∷◌, ◌++◌}
use mathlib.Core.Path.{◌≡◌, refl}
use lib.ListN.{get_or, replicate}
use lib.IntN.{pos, negsuc}
use lib.Ieee.{Float, fin, binary32, binary64, mul, of_bits, of_int, to_bits}
use Rattle.limits.specs.Capacity.{most_units}
use Rattle.limits.specs.Common.{absent}
use Rattle.phrase.specs.Phrase.{Phrase, Stage, Candidate, spoken}
use Rattle.entries.specs.Words.{all_words}
use Rattle.entries.specs.Ranking.{ranked}
use Rattle.decoding.specs.EntryOf.{entries_of}
use Rattle.decoding.proofs.Examples.{nought, stage_of}
use Rattle.group.proofs.Group.{worked_words}

abbrev words_for : Phrase → List ℕ
words_for phrase = all_words most_units (ranked (entries_of phrase))

-- Every frame is speech and filler costs nothing. A unit's score is that of its column, and every duration the same.
abbrev phrase_with : Stage → List Float → Float → List Candidate → Phrase
phrase_with nuclei scores unvoiced candidates = record {
  mask = replicate 12 1;
  nuclei = nuclei;
  added = stage_of [] 0 [];
  score = λ row column. get_or scores column nought;
  candidates = candidates;
  costs = record { per_frame = nought; insertion_llr = nought; «unvoiced» = unvoiced };
  speech = spoken 0 12;
}

-- ---- "Long words hit the clamp and look equal to the coach"

-- Two candidates of two units, with scores of 750,000.0625 and of 1,000,000 for each. Both llr are 1,000,000, so that the record's order
-- stands, though the second sum is the larger: 1,500,000.125 and 2,000,000.
clamped_alike : words_for
    (phrase_with (stage_of (3 ∷ 9 ∷ []) 0 (0 ∷ 6 ∷ 12 ∷ [])) (fin false 12000001 (negsuc 3) ∷ fin false 15625 (pos 6) ∷ []) nought
    (record { id = 1; columns = 0 ∷ 0 ∷ [] } ∷ record { id = 2; columns = 1 ∷ 1 ∷ [] } ∷ []))
    ≡ (1 ∷ 0x49742400 ∷ 0 ∷ 2 ∷ 0x20000000 ∷ 0x4136e360 ∷ 0 ∷ 6 ∷ 0 ∷ 6 ∷ 12 ∷ 1 ∷ replicate 42 0)
    ++ (2 ∷ 0x49742400 ∷ 0 ∷ 2 ∷ 0 ∷ 0x413e8480 ∷ 0 ∷ 6 ∷ 0 ∷ 6 ∷ 12 ∷ 1 ∷ replicate 42 0)
unfolding worked_words
clamped_alike = refl

-- ---- "For passes 4 and 5 it is the widened product before the clamp"

abbrev tenth : Float
tenth = of_bits binary32 0x3dcccccd

-- no nucleus, and three units
three_tenths : words_for (phrase_with (stage_of [] 0 []) [] tenth (record { id = 1; columns = 0 ∷ 0 ∷ 0 ∷ [] } ∷ []))
    ≡ 1 ∷ 0x3e99999a ∷ 5 ∷ 3 ∷ 0x40000000 ∷ 0x3fd33333
    ∷ (0 ∷ 0 ∷ absent ∷ 0 ∷ 0 ∷ absent ∷ 0 ∷ 0 ∷ absent ∷ replicate 39 0)
unfolding worked_words
three_tenths = refl

-- which the f64 product is not
not_in_f64 : to_bits binary64 (mul binary64 (of_int binary64 (pos 3)) tenth) ≡ 0x3fd3333338000000
unfolding worked_words
not_in_f64 = refl

-- ---- a sum that is 0, or whose llr is

abbrev one_unit : Float → List ℕ
one_unit duration =
    words_for
    (phrase_with (record { anchors = 3 ∷ []; first_row = 0; boundaries = 0 ∷ 6 ∷ []; duration = λ frames. duration })
    (fin true 0 (pos 0) ∷ []) nought (record { id = 1; columns = 0 ∷ [] } ∷ []))

-- -0 and a score of -0: the sum is -0, in all its 64 bits
minus_zero : one_unit (fin true 0 (pos 0)) ≡ 1 ∷ 0x80000000 ∷ 0 ∷ 1 ∷ 0 ∷ 0x80000000 ∷ 0 ∷ 6 ∷ 0 ∷ replicate 45 0
unfolding worked_words
minus_zero = refl

plus_zero : one_unit nought ≡ 1 ∷ 0 ∷ 0 ∷ 1 ∷ 0 ∷ 0 ∷ 0 ∷ 6 ∷ 0 ∷ replicate 45 0
unfolding worked_words
plus_zero = refl

-- -2^-1074: the llr is -0, and the sum is not
below_an_f32 : one_unit (fin true 1 (negsuc 1073)) ≡ 1 ∷ 0x80000000 ∷ 0 ∷ 1 ∷ 1 ∷ 0x80000000 ∷ 0 ∷ 6 ∷ 0 ∷ replicate 45 0
unfolding worked_words
below_an_f32 = refl
