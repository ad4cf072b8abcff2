-- Worked examples over whole phrases, as theorems about the definitions: document 01's own, and one for each misreading that the
-- laws leave open.
use mathlib.Core.Path.{◌≡◌, refl}
use mathlib.Core.Bool.{true, false, cond}
use mathlib.Core.List.{List, [], ◌∷◌, map}
use Prim.Native.Nat.{ℕ}
use lib.IntN.{pos, negsuc}
use lib.Dec.{eqb}
use lib.ListN.{replicate}
use lib.Ieee.{Float, fin, binary32, to_bits, add, sub, mul, neg, of_int, lt}
use Rattle.phrase.specs.Phrase.{Phrase, Stage, Speech, silent, spoken}
use Rattle.paths.specs.declared.passes.Strictness.TheVariants.{Strict, Relaxed}
use Rattle.paths.specs.declared.passes.Pass.TheVariants.{NucleiStrict, CountStrict, CountRelaxed, NucleiRelaxed}
use Rattle.paths.specs.Path.{begin, unit}
use Rattle.paths.specs.Anchors.{Anchor, kept_in, held_in}
use Rattle.paths.specs.Units.{admits_unit}
use Rattle.paths.specs.StageProblem.{cost, unit_value_of}
use Rattle.paths.specs.Passes.{has_nucleus}
use Rattle.paths.specs.Demand.{Answer, found, none, unvoiced}
use Rattle.paths.specs.Search.{chosen}

-- ---- phrases, with figures in their one form: `fin false 3 (pos 0)` is 3, `fin true 1 (negsuc 1)` is -1/4

abbrev nought : Float
nought = fin false 0 (pos 0)

abbrev stage_of : List ℕ → ℕ → List ℕ → (ℕ → Float) → Stage
stage_of anchors first_row boundaries duration =
    record { anchors = anchors; first_row = first_row; boundaries = boundaries; duration = duration }

abbrev no_stage : Stage
no_stage = stage_of [] 0 [] (λ frames. nought)

-- by mask, stages, speech and the score of each row, for any column; then per_frame, insertion_llr and the unvoiced score
abbrev phrase_of : List ℕ → Stage → Stage → Speech → (ℕ → Float) → Float → Float → Float → Phrase
phrase_of mask nuclei added speech score per_frame insertion missing = record {
  mask = mask;
  nuclei = nuclei;
  added = added;
  score = λ row column. score row;
  candidates = [];
  costs = record { per_frame = per_frame; insertion_llr = insertion; «unvoiced» = missing };
  speech = speech;
}

-- all figures zero
abbrev zeroed : List ℕ → Stage → Stage → Speech → Phrase
zeroed mask nuclei added speech = phrase_of mask nuclei added speech (λ row. nought) nought nought nought

-- nuclei and boundaries alone, with no figure but zero
abbrev plain : List ℕ → List ℕ → List ℕ → Phrase
plain mask nuclei boundaries = zeroed mask (stage_of nuclei 0 boundaries (λ frames. nought)) no_stage (spoken 0 100)

-- To name it on an `unfolding` line opens all that an answer is worked out by.
worked : Phrase → List ℕ → Answer
unfolding chosen has_nucleus kept_in cost admits_unit unit_value_of add sub mul neg of_int lt
worked = chosen

-- ---- document 01's sample phrase

abbrev sample : Phrase
sample =
    phrase_of (replicate 20 1) (stage_of (7 ∷ []) 0 (4 ∷ 14 ∷ []) (λ frames. cond (eqb frames 10) (fin true 1 (negsuc 1)) nought)) no_stage
    (spoken 4 14)
    (λ row. fin false 3 (pos 0)) (fin false 1 (negsuc 0)) (fin true 1 (pos 1)) (fin true 1 (pos 2))

-- candidate 3: the unit 4..14, sum -2.25
sample_3 : chosen sample (0 ∷ []) ≡ found NucleiStrict (unit (begin 0) 1) (fin true 9 (negsuc 1))
unfolding worked
sample_3 = refl

sample_3_bits : to_bits binary32 (fin true 9 (negsuc 1)) ≡ 0xc0100000
unfolding to_bits
sample_3_bits = refl

-- candidate 9: two units do not fit
sample_9 : chosen sample (0 ∷ 0 ∷ []) ≡ none
unfolding worked
sample_9 = refl

-- ---- units

abbrev pub anchor_at : ℕ → Anchor
anchor_at frame = record { frame = frame; row = 0 }

-- of 5 (barred), 6, 80, 81 (barred) frames
pub unit_lengths : map (admits_unit Strict (anchor_at 0 ∷ []) 0) (5 ∷ 6 ∷ 80 ∷ 81 ∷ []) ≡ false ∷ true ∷ true ∷ false ∷ []
unfolding admits_unit
unit_lengths = refl

-- with none, one and two anchors
anchors_held : map (λ anchors. admits_unit Strict anchors 0 10) ([] ∷ (anchor_at 3 ∷ []) ∷ (anchor_at 3 ∷ anchor_at 4 ∷ []) ∷ [])
    ≡ false ∷ true ∷ false ∷ []
unfolding admits_unit
anchors_held = refl

anchors_held_relaxed : map (λ anchors. admits_unit Relaxed anchors 0 10) ([] ∷ (anchor_at 3 ∷ []) ∷ (anchor_at 3 ∷ anchor_at 4 ∷ []) ∷ [])
    ≡ true ∷ true ∷ false ∷ []
unfolding admits_unit
anchors_held_relaxed = refl

-- an anchor on the first boundary is held, one on the last is not
anchors_on_boundaries : held_in (anchor_at 4 ∷ anchor_at 14 ∷ []) 4 14 ≡ anchor_at 4 ∷ []
unfolding held_in
anchors_on_boundaries = refl

-- the second nucleus keeps row 1 where the first is dropped
rows_kept : kept_in (1 ∷ 1 ∷ 0 ∷ 1 ∷ 1 ∷ 1 ∷ []) 0 (2 ∷ 3 ∷ []) ≡ record { frame = 3; row = 1 } ∷ []
unfolding kept_in
rows_kept = refl

-- ---- paths

-- boundaries 0, 6, 12, all values zero, relaxed, one unit: 0..6
lowest_first : chosen (plain (replicate 13 1) (12 ∷ []) (0 ∷ 6 ∷ 12 ∷ [])) (0 ∷ []) ≡ found NucleiRelaxed (unit (begin 0) 1) nought
unfolding worked
lowest_first = refl

-- a start is the negated cost: no unit over no cost has the sum -0
negated_start : chosen (plain (1 ∷ []) (0 ∷ []) (0 ∷ [])) [] ≡ found NucleiStrict (begin 0) (fin true 0 (pos 0))
unfolding worked
negated_start = refl

-- Start -1, score 1, duration -2^-40 - 2^-54: score and duration are rounded to 1 - 2^-40 first, and the sum is -2^-40. Added one
-- after the other they would leave the duration; rounded to an f32 first, 0.
score_and_duration_first : chosen
    (phrase_of (1 ∷ 1 ∷ 1 ∷ 1 ∷ 0 ∷ 0 ∷ 0 ∷ 1 ∷ []) (stage_of (7 ∷ []) 0 (4 ∷ 14 ∷ []) (λ frames. fin true 16385 (negsuc 53))) no_stage
    (spoken 4 14)
    (λ row. fin false 1 (pos 0)) (fin false 1 (negsuc 1)) nought nought)
    (0 ∷ []) ≡ found NucleiStrict (unit (begin 0) 1) (fin true 1 (negsuc 39))
unfolding worked
score_and_duration_first = refl

-- ---- passes

-- the added stage, where the nuclei's has no path; its anchor's row comes after the nuclei's
added_stage : chosen
    (phrase_of (replicate 8 1) (stage_of (7 ∷ []) 0 [] (λ frames. nought)) (stage_of (7 ∷ []) 1 (2 ∷ 8 ∷ []) (λ frames. nought)) (spoken 0 8)
    (λ row. cond (eqb row 1) (fin false 1 (pos 0)) nought) nought nought nought)
    (0 ∷ []) ≡ found CountStrict (unit (begin 0) 1) (fin false 1 (pos 0))
unfolding worked
added_stage = refl

-- "Both stages count the record's nuclei here": after the unit comes a nucleus that is no anchor of the added stage, at insertion_llr 1
nuclei_counted : chosen
    (phrase_of (replicate 10 1) (stage_of (9 ∷ []) 0 [] (λ frames. nought)) (stage_of (3 ∷ []) 1 (2 ∷ 8 ∷ []) (λ frames. nought)) (spoken 0 10)
    (λ row. nought) nought (fin false 1 (pos 0)) nought)
    (0 ∷ []) ≡ found CountStrict (unit (begin 0) 1) (fin false 1 (pos 0))
unfolding worked
nuclei_counted = refl

-- its anchor on a 0 byte is dropped, and the nuclei are not searched relaxed
added_relaxed : chosen
    (zeroed (1 ∷ 1 ∷ 0 ∷ replicate 9 1) (stage_of (11 ∷ []) 0 (0 ∷ 6 ∷ []) (λ frames. nought))
    (stage_of (2 ∷ []) 1 (0 ∷ 6 ∷ []) (λ frames. nought)) (spoken 0 12))
    (0 ∷ []) ≡ found CountRelaxed (unit (begin 0) 1) nought
unfolding worked
added_relaxed = refl

-- no speech by the edges, whatever the mask's bytes
no_speech : chosen (zeroed (replicate 20 1) (stage_of (7 ∷ []) 0 (4 ∷ 14 ∷ []) (λ frames. nought)) no_stage silent) (0 ∷ []) ≡ none
unfolding worked
no_speech = refl

-- no nucleus in the mask
no_nucleus_kept : chosen (plain (0 ∷ []) (0 ∷ []) []) (0 ∷ []) ≡ unvoiced
unfolding worked
no_nucleus_kept = refl
