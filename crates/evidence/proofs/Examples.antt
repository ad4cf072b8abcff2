-- `joins` and `creaky_tail` at the borders that document 01 draws, by computation.
use Prim.Native.Nat.{ℕ}
use mathlib.Core.Bool.{Bool, true, false}
use mathlib.Core.List.{List, [], ◌∷◌, ◌++◌, map}
use mathlib.Core.Path.{◌≡◌, refl}
use lib.ListN.{replicate}
use Rattle.laws.specs.Rules.{first_of}
use Rattle.frames.specs.Outcome.{accepted, refused}
use Rattle.std.specs.Prelude.{Option, Some, None}
use Rattle.evidence.specs.Masks.{all_marked}
use Rattle.evidence.specs.Joins.{joined, joins_of}
use Rattle.evidence.specs.CreakyTail.{last_pitched, run_from, tail_from, creaky_tail_of}

-- ---- joins: a voice mask of 9 ones

-- "e ≥ 3, e + 3 is at most the voice mask's length": edges 2, 3, 6, 7
joins_edges : map (joined (replicate 9 1) (replicate 9 1)) (2 ∷ 3 ∷ 6 ∷ 7 ∷ []) ≡ false ∷ true ∷ true ∷ false ∷ []
unfolding joined all_marked
joins_edges = refl

-- "pitch frames e − 3 to e all exist": a pitch mask of 6 frames and one of 7, at edge 6
joins_pitch : map (λ pitched. joined (replicate 9 1) pitched 6) (replicate 6 1 ∷ replicate 7 1 ∷ []) ≡ false ∷ true ∷ []
unfolding joined all_marked
joins_pitch = refl

-- "voice frames e − 3 to e + 2 are all 1": at edge 4, where all are 1 but frame 0, 1, 6 or 7
joins_voice : map (λ frame. joined (replicate frame 1 ++ 0 ∷ replicate 8 1) (replicate 9 1) 4) (0 ∷ 1 ∷ 6 ∷ 7 ∷ []) ≡ true ∷ false ∷ false ∷ true ∷ []
unfolding joined all_marked
joins_voice = refl

-- each edge has its own answer
joins_both : joins_of (replicate 9 1) (replicate 9 1) 2 6 ≡ accepted (record { start = false; end = true })
unfolding joins_of joined all_marked first_of
joins_both = refl

-- "no frame above 4,095 (5)": 4,095 and 4,096
joins_late : map (joins_of [] [] 0) (4095 ∷ 4096 ∷ []) ≡ accepted (record { start = false; end = false }) ∷ refused 5 ∷ []
unfolding joins_of joined first_of
joins_late = refl

-- ---- creaky_tail: frame 1 is the last pitched one, so that the run starts at frame 2

-- vowel speech for so many frames from there on
abbrev tail : ℕ → Option ℕ → List ℕ → Bool
tail frames next pitched = tail_from next pitched (replicate 2 1 ++ replicate frames 1 ++ replicate 9 0) 2

abbrev pitched_two : List ℕ
pitched_two = replicate 2 1 ++ replicate 18 0

-- "the run has 5 frames or more": 4 and 5, with no next nucleus
tail_long : map (λ frames. tail frames None pitched_two) (4 ∷ 5 ∷ []) ≡ false ∷ true ∷ []
unfolding tail_from run_from
tail_long = refl

-- "the frame after the run is at or past the stop": a run over frames 2 to 6, and the next nucleus at frame 7 and at 8
tail_before_nucleus : map (λ nucleus. tail 5 (Some nucleus) pitched_two) (7 ∷ 8 ∷ []) ≡ false ∷ true ∷ []
unfolding tail_from run_from
tail_before_nucleus = refl

-- the stop cuts the run: the next nucleus at frame 6 leaves 4 frames
tail_cut : tail 9 (Some 6) pitched_two ≡ false
unfolding tail_from run_from
tail_cut = refl

-- "or pitched": frame 7 pitched again, with a next nucleus at 12 and with none
tail_pitched_again : map (λ next. tail 5 next (replicate 2 1 ++ replicate 5 0 ++ replicate 13 1)) (Some 12 ∷ None ∷ []) ≡ false ∷ true ∷ []
unfolding tail_from run_from
tail_pitched_again = refl

-- "never above that length": a pitch mask of 7 frames ends the run at 7, which joins it to a nucleus far beyond, and to none
tail_mask_end : map (λ next. tail 9 next (replicate 2 1 ++ replicate 5 0)) (Some 4095 ∷ None ∷ []) ≡ false ∷ true ∷ []
unfolding tail_from run_from
tail_mask_end = refl

-- "from the span's start up to but not including its end": frames 1 and 4 are pitched, over spans that hold both, one, none
tail_last : map (last_pitched (0 ∷ 1 ∷ 0 ∷ 0 ∷ 1 ∷ []) 1) (5 ∷ 4 ∷ 1 ∷ []) ≡ Some 4 ∷ Some 1 ∷ None ∷ []
unfolding last_pitched
tail_last = refl

-- "none means no"
tail_unpitched : creaky_tail_of 0 3 None (replicate 20 0) (replicate 20 1) ≡ accepted false
unfolding creaky_tail_of last_pitched first_of
tail_unpitched = refl

-- the whole call: the span 0..3 and a run of 5 frames
tail_creaky : creaky_tail_of 0 3 None pitched_two (replicate 7 1) ≡ accepted true
unfolding creaky_tail_of last_pitched tail_from run_from first_of
tail_creaky = refl
