-- Worked examples of an entry, one for each pass and each misreading that the laws leave open. Figures are zero and every frame is speech
-- unless said. Document 01's own examples are in the crate `group`.
use Prim.Native.Nat.{ℕ}
use mathlib.Core.Bool.{true, false}
use mathlib.Core.List.{List, [], ◌∷◌, zip_with}
use mathlib.Core.Path.{◌≡◌, refl}
use lib.ListN.{replicate}
use lib.IntN.{pos, negsuc}
use lib.Ieee.{Float, fin, add, sub, mul, neg, of_int, lt, is_nan}
use Rattle.limits.specs.Common.{absent}
use Rattle.ieee.specs.Convert.{clamped, narrowed, clamped_log}
use Rattle.phrase.specs.Phrase.{Phrase, Stage, Candidate, Speech, silent, spoken}
use Rattle.paths.specs.Anchors.{kept_in}
use Rattle.paths.specs.Units.{admits_unit}
use Rattle.paths.specs.StageProblem.{cost, unit_value_of}
use Rattle.paths.specs.Passes.{has_nucleus}
use Rattle.paths.specs.Path.{units_of}
use Rattle.paths.specs.Search.{chosen}
use Rattle.frames.specs.Frames.{highest_below, lowest_from}
use Rattle.entries.specs.Entry.{Entry}
use Rattle.decoding.specs.Report.{reported_in}
use Rattle.decoding.specs.EntryOf.{entry_by, entry_of, missed_total}

-- To name it on an `unfolding` line opens all that an entry is worked out by.
unfoldable pub worked_entry : Phrase → Candidate → Entry
unfolding entry_by chosen has_nucleus kept_in cost admits_unit unit_value_of add sub mul neg of_int lt is_nan clamped_log clamped narrowed reported_in zip_with units_of highest_below lowest_from
worked_entry = entry_of

abbrev pub nought : Float
nought = fin false 0 (pos 0)

abbrev pub stage_of : List ℕ → ℕ → List ℕ → Stage
stage_of anchors first_row boundaries =
    record { anchors = anchors; first_row = first_row; boundaries = boundaries; duration = λ frames. nought }

abbrev pub candidate : Candidate
candidate = record { id = 1; columns = 0 ∷ [] }

-- a mask of ones, and no figure but the unvoiced score
abbrev pub plain_phrase : Speech → Float → ℕ → Stage → Stage → Phrase
plain_phrase speech unvoiced frames nuclei added = record {
  mask = replicate frames 1;
  nuclei = nuclei;
  added = added;
  score = λ row column. nought;
  candidates = candidate ∷ [];
  costs = record { per_frame = nought; insertion_llr = nought; «unvoiced» = unvoiced };
  speech = speech;
}

-- every figure zero, and speech throughout
abbrev pub zero_phrase : ℕ → Stage → Stage → Phrase
zero_phrase frames = plain_phrase (spoken 0 frames) nought frames

-- an entry of candidate 1 without any score, by its pass and its one unit
abbrev entry : ℕ → ℕ → ℕ → ℕ → Entry
entry pass start end row =
    record { id = 1; pass = pass; total = nought; llr = nought; units = record { start = start; end = end; row = row } ∷ [] }

-- A row's span, and not the path frames 4..18, for a unit with an anchor. Nucleus 12 is outside the mask and cuts the span of nucleus 7.
row_span_law : entry_of (zero_phrase 10 (stage_of (7 ∷ 12 ∷ []) 0 (4 ∷ 18 ∷ [])) (stage_of [] 2 [])) candidate ≡ entry 0 4 10 0
unfolding worked_entry
row_span_law = refl

-- Added rows are numbered from N.
added_row : entry_of (zero_phrase 8 (stage_of (7 ∷ []) 0 []) (stage_of (7 ∷ []) 1 (2 ∷ 8 ∷ []))) candidate ≡ entry 1 2 8 1
unfolding worked_entry
added_row = refl

-- The anchor is outside the mask, so its unit has none.
added_relaxed : entry_of (zero_phrase 12 (stage_of (11 ∷ []) 0 []) (stage_of (20 ∷ []) 1 (0 ∷ 6 ∷ []))) candidate ≡ entry 2 0 6 absent
unfolding worked_entry
added_relaxed = refl

-- No boundary, so no path: the empty span is at speech start.
no_path : entry_of (plain_phrase (spoken 2 8) nought 10 (stage_of (7 ∷ []) 0 []) (stage_of [] 1 [])) candidate ≡ entry 4 2 2 absent
unfolding worked_entry
no_path = refl

-- No speech by the edges: the empty span is at 0.
no_speech : entry_of (plain_phrase silent nought 10 (stage_of (7 ∷ []) 0 (4 ∷ 10 ∷ [])) (stage_of [] 1 [])) candidate ≡ entry 4 0 0 absent
unfolding worked_entry
no_speech = refl

-- No nucleus within the mask.
no_nucleus : entry_of (zero_phrase 10 (stage_of (12 ∷ []) 0 (0 ∷ 6 ∷ [])) (stage_of [] 1 [])) candidate ≡ entry 5 0 0 absent
unfolding worked_entry
no_nucleus = refl

-- 3 × −(2^24 − 1) / 2^10 takes 26 digits, of which an f32 keeps 24.
f32_product : missed_total (plain_phrase silent (fin true 16777215 (negsuc 9)) 10 (stage_of [] 0 []) (stage_of [] 0 [])) 3
    ≡ fin true 12582911 (negsuc 7)
unfolding mul of_int
f32_product = refl
