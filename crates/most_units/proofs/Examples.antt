-- Worked examples, as theorems about the definitions: counts at the cap and below it, and a stage over which decoding runs no relaxed pass.
use Prim.Native.Nat.{ℕ, zero, suc, ◌*◌, ◌<◌}
use mathlib.Core.Bool.{false}
use mathlib.Core.List.{List, [], ◌∷◌}
use mathlib.Core.Path.{◌≡◌, refl}
use native.Mathlib.Omega.{arith}
use lib.IntN.{pos}
use lib.Dec.{lit≤}
use lib.Ieee.{Float, fin, add, sub, mul, neg, of_int, lt}
use lib.ListN.{length, replicate}
use Rattle.laws.specs.Listed.{listed}
use Rattle.laws.proofs.Listed.{length_listed, get_d_listed}
use Rattle.laws.specs.Inner.Range.{first_from, past_last}
use Rattle.phrase.specs.Phrase.{Phrase, Stage, spoken}
use Rattle.limits.specs.Edition.{edition1}
use Rattle.paths.specs.declared.passes.Strictness.{Strictness}
use Rattle.paths.specs.declared.passes.Strictness.TheVariants.{Strict, Relaxed}
use Rattle.paths.specs.Anchors.{kept, kept_in}
use Rattle.paths.specs.Units.{admits_unit}
use Rattle.paths.specs.StageProblem.{cost, unit_value_of}
use Rattle.paths.specs.Passes.{has_nucleus}
use Rattle.paths.specs.Demand.{none}
use Rattle.paths.specs.Search.{chosen}
use Rattle.paths.specs.Inner.Order.{Increasing}
use Rattle.paths.specs.Inner.Ranges.{low_origin, origins_end, first_reached}
use Rattle.paths.proofs.Ranges.{origins}
use Rattle.most_units.specs.Most.{paths_of, Most}
use Rattle.most_units.specs.Inner.Last.{LastReached}
use Rattle.most_units.proofs.Largest.{last_most, one_boundary}

abbrev nought : Float
nought = fin false 0 (pos 0)

abbrev stage_with : List ℕ → ℕ → List ℕ → Stage
stage_with anchors first_row boundaries =
    record { anchors = anchors; first_row = first_row; boundaries = boundaries; duration = λ frames. nought }

-- a mask of ones and speech throughout, all figures zero
abbrev phrase_with : ℕ → Stage → Stage → Phrase
phrase_with frames nuclei added = record {
  mask = replicate frames 1;
  nuclei = nuclei;
  added = added;
  score = λ row column. nought;
  candidates = [];
  costs = record { per_frame = nought; insertion_llr = nought; «unvoiced» = nought };
  speech = spoken 0 frames;
}

-- the first boundary that a count of units reaches, worked out
reached : Phrase → Stage → Strictness → ℕ → ℕ
unfolding first_reached low_origin origins_end first_from past_last admits_unit kept_in listed
reached phrase stage strictness =
    first_reached (low_origin (kept phrase stage) stage.boundaries) (origins_end strictness (kept phrase stage) stage.boundaries)
    (length stage.boundaries)

most_of_law :
    (phrase : Phrase) (stage : Stage) (strictness : Strictness) → Increasing stage.boundaries → {cap units : ℕ} →
    LastReached (reached phrase stage strictness) (length stage.boundaries) cap units →
    Most (paths_of phrase stage strictness) cap units
unfolding reached
most_of_law phrase stage strictness up last =
    last_most (paths_of phrase stage strictness) (origins (kept phrase stage) stage.boundaries up strictness) last

-- ---- at the cap

-- n boundaries, each 6 frames after the one before, and no anchor
abbrev row : ℕ → Stage
row n = stage_with [] 0 (listed (λ i. 6 * i) n)

abbrev alone : ℕ → Phrase
alone n = phrase_with 120 (row n) (stage_with [] 0 [])

rises : (n : ℕ) → Increasing (row n).boundaries
rises n i h =
    let more : suc i < n = omega (arith, length_listed (λ i. 6 * i) n) in
    omega (arith, get_d_listed (λ i. 6 * i) n i 0 (omega arith), get_d_listed (λ i. 6 * i) n (suc i) 0 more)

-- 16 boundaries: 15 units
sixteen_boundaries : Most (paths_of (alone 16) (row 16) Relaxed) edition1.units 15
unfolding reached
sixteen_boundaries =
    most_of_law (alone 16) (row 16) Relaxed (rises 16) (record { capped = lit≤ tt; reaches = lit≤ tt; ends = λ h. lit≤ tt })

-- 17 and 18 boundaries: 16 units, which reads "16 or more"; under a higher cap 18 give 17
seventeen_boundaries : Most (paths_of (alone 17) (row 17) Relaxed) edition1.units 16
unfolding reached
seventeen_boundaries =
    most_of_law (alone 17) (row 17) Relaxed (rises 17) (record { capped = lit≤ tt; reaches = lit≤ tt; ends = λ h. absurd (omega arith) })

eighteen_boundaries : Most (paths_of (alone 18) (row 18) Relaxed) edition1.units 16
unfolding reached
eighteen_boundaries =
    most_of_law (alone 18) (row 18) Relaxed (rises 18) (record { capped = lit≤ tt; reaches = lit≤ tt; ends = λ h. absurd (omega arith) })

eighteen_under_24 : Most (paths_of (alone 18) (row 18) Relaxed) 24 17
unfolding reached
eighteen_under_24 =
    most_of_law (alone 18) (row 18) Relaxed (rises 18) (record { capped = lit≤ tt; reaches = lit≤ tt; ends = λ h. lit≤ tt })

-- ---- one boundary

alone_at_0 : (strictness : Strictness) → Most (paths_of (alone 1) (row 1) strictness) edition1.units 0
alone_at_0 strictness = one_boundary (paths_of (alone 1) (row 1) strictness) (length_listed (λ i. 6 * i) 1) edition1.units

-- ---- whether or not decoding would run the pass

-- nucleus 1, boundaries 0, 6, 12, 18, 24, and an added stage of one anchor and no boundaries
abbrev nuclei_stage : Stage
nuclei_stage = stage_with (1 ∷ []) 0 (0 ∷ 6 ∷ 12 ∷ 18 ∷ 24 ∷ [])

abbrev unheard : Phrase
unheard = phrase_with 24 nuclei_stage (stage_with (1 ∷ []) 1 [])

climbs : Increasing nuclei_stage.boundaries
climbs zero h = lit≤ tt
climbs (suc zero) h = lit≤ tt
climbs (suc (suc zero)) h = lit≤ tt
climbs (suc (suc (suc zero))) h = lit≤ tt
climbs (suc (suc (suc (suc i)))) h = absurd (omega arith)

-- four units would have fitted, of which one holds the nucleus
four_relaxed : Most (paths_of unheard nuclei_stage Relaxed) edition1.units 4
unfolding reached
four_relaxed = most_of_law unheard nuclei_stage Relaxed climbs (record { capped = lit≤ tt; reaches = lit≤ tt; ends = λ h. lit≤ tt })

one_strict : Most (paths_of unheard nuclei_stage Strict) edition1.units 1
unfolding reached
one_strict = most_of_law unheard nuclei_stage Strict climbs (record { capped = lit≤ tt; reaches = lit≤ tt; ends = λ h. lit≤ tt })

-- and decoding says "none" for a word of four, since nuclei-relaxed is not run where there is an added stage
none_of_four : chosen unheard (0 ∷ 0 ∷ 0 ∷ 0 ∷ []) ≡ none
unfolding chosen has_nucleus kept_in cost admits_unit unit_value_of add sub mul neg of_int lt
none_of_four = refl
