-- Numbers put to the definitions: an exact sum, how far the f64 sum lies from it, and a path that is returned though another's exact sum is
-- above its own.
use Prim.Native.Nat.{ℕ, ◌*◌, ◌^◌}
use mathlib.Core.Bool.{true, false, cond}
use mathlib.Core.List.{List, [], ◌∷◌}
use mathlib.Core.Path.{◌≡◌, refl}
use lib.Dec.{eqb}
use lib.IntN.{pos, negsuc, neg_ℤ}
use lib.ListN.{replicate}
use lib.Ieee.{Float, fin, add, sub, mul, neg, of_int, lt}
use Rattle.exact.specs.Scaled.{scaled}
use Rattle.exact.specs.Apart.{apart, excess}
use Rattle.phrase.specs.Phrase.{Phrase, spoken}
use Rattle.paths.specs.declared.passes.Strictness.TheVariants.{Strict}
use Rattle.paths.specs.declared.passes.Pass.TheVariants.{NucleiStrict}
use Rattle.paths.specs.Path.{Path, begin, gap, unit, sum}
use Rattle.paths.specs.Anchors.{kept_in}
use Rattle.paths.specs.Units.{admits_unit}
use Rattle.paths.specs.StageProblem.{cost, unit_value_of, problem_of}
use Rattle.paths.specs.Passes.{has_nucleus}
use Rattle.paths.specs.Demand.{found}
use Rattle.paths.specs.Search.{chosen}
use Rattle.distance.specs.ExactSum.{exact_sum}
use Rattle.distance.specs.ExactStage.{exact_cost, exact_unit, exact_of}

abbrev nought : Float
nought = fin false 0 (pos 0)

-- the f64 nearest to 0.1, 3602879701896397 * 2 ^ -55, and its negative
abbrev tenth : Float
tenth = fin false 3602879701896397 (negsuc 54)

abbrev minus_tenth : Float
minus_tenth = fin true 3602879701896397 (negsuc 54)

-- nuclei and boundaries over frames of speech, by duration, the score of each row, per_frame and insertion_llr
abbrev phrase_by : ℕ → List ℕ → List ℕ → Float → (ℕ → Float) → Float → Float → Phrase
phrase_by frames nuclei boundaries duration score per_frame insertion = record {
  mask = replicate frames 1;
  nuclei = record { anchors = nuclei; first_row = 0; boundaries = boundaries; duration = λ length. duration };
  added = record { anchors = []; first_row = 4; boundaries = []; duration = λ length. nought };
  score = λ row column. score row;
  candidates = [];
  costs = record { per_frame = per_frame; insertion_llr = insertion; unvoiced = nought };
  speech = spoken 0 frames;
}

-- ---- seven frames and three nuclei of filler, each of which costs 0.1

abbrev tenths : Phrase
tenths = phrase_by 13 (0 ∷ 1 ∷ 2 ∷ 7 ∷ []) (3 ∷ 4 ∷ 10 ∷ []) nought (λ row. nought) tenth minus_tenth

-- frames 0..3 before the start with three nuclei, the gap 3..4, the unit 4..10, and 10..13 after the end
abbrev tenths_path : Path
tenths_path = unit (gap (begin 0)) 2

-- ten times the figure, of which nothing is rounded
tenths_exact : exact_sum (exact_of tenths tenths.nuclei (0 ∷ [])) tenths_path ≡ neg_ℤ (pos (10 * 3602879701896397 * 2 ^ 1020))
unfolding exact_sum exact_cost exact_unit kept_in
tenths_exact = refl

-- In f64 0.1 * 3 is rounded up, twice, and the sums back: -1 in all, which is 2 ^ -54 off.
tenths_rounded : sum (problem_of tenths tenths.nuclei Strict (0 ∷ [])) tenths_path ≡ fin true 1 (pos 0)
unfolding sum cost unit_value_of kept_in add sub mul neg of_int
tenths_rounded = refl

tenths_apart : apart (scaled (fin true 1 (pos 0))) (exact_sum (exact_of tenths tenths.nuclei (0 ∷ [])) tenths_path) ≡ 2 ^ 1021
unfolding scaled exact_sum exact_cost exact_unit kept_in
tenths_apart = refl

-- ---- two units with the duration entry -1,000,000, of which the second scores 2 ^ -35 more

abbrev overtaken : Phrase
overtaken =
    phrase_by 12 (3 ∷ 9 ∷ []) (0 ∷ 6 ∷ 12 ∷ []) (fin true 15625 (pos 6)) (λ row. cond (eqb row 0) nought (fin false 1 (negsuc 34))) nought nought

-- As f64 sums they are equal, and of equal ends the lowest boundary wins.
first_returned : chosen overtaken (0 ∷ []) ≡ found NucleiStrict (unit (begin 0) 1) (fin true 15625 (pos 6))
unfolding chosen has_nucleus kept_in cost admits_unit unit_value_of add sub mul neg of_int lt
first_returned = refl

-- So the path that is returned has not the largest exact sum: the other is above it by 2 ^ -35, which is less than 2 ^ -20.
second_above : excess (exact_sum (exact_of overtaken overtaken.nuclei (0 ∷ [])) (unit (begin 1) 2))
    (exact_sum (exact_of overtaken overtaken.nuclei (0 ∷ [])) (unit (begin 0) 1)) ≡ 2 ^ 1040
unfolding exact_sum exact_cost exact_unit kept_in
second_above = refl
