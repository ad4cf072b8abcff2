-- `creaky_tail` (document 01, "Spans, marks and order").
use Rattle.std.specs.Prelude.{ℕ, zero, suc, ◌+◌, ◌-◌, min, Bool, false, not, ◌&&◌, ◌||◌, cond, List, [], ◌∷◌, leb, ltb, length, Option, Some, None, is_some, unwrap_or}
use Rattle.limits.specs.Common.{last_frame}
use Rattle.laws.specs.Rules.{rule}
use Rattle.frames.specs.Outcome.{Outcome, checked, any_above, most_bytes}
use Rattle.evidence.specs.Masks.{marked}

-- there is a frame, and it is a "frame above 4,095"
abbrev pub beyond : ℕ → Option ℕ → Bool
beyond limit None = false
beyond limit (Some f) = ltb limit f

-- "the last pitched frame from the span's start up to but not including its end, within the pitch mask"
unfoldable pub last_pitched : List ℕ → ℕ → ℕ → Option ℕ
last_pitched pitched start zero = None
last_pitched pitched start (suc e) = cond (leb start e) (cond (marked pitched e) (Some e) (last_pitched pitched start e)) None

-- "unpitched frames that are vowel speech (beyond that mask: not)"
abbrev pub in_tail : List ℕ → List ℕ → ℕ → Bool
in_tail pitched vowel frame = not (marked pitched frame) && marked vowel frame

-- how many of them stand one after the other from a frame on, among the next n frames
unfoldable pub run_from : List ℕ → List ℕ → ℕ → ℕ → ℕ
run_from pitched vowel frame zero = zero
run_from pitched vowel frame (suc n) =
    cond (in_tail pitched vowel frame) (suc (run_from pitched vowel (suc frame) n)) zero

-- "The stop is the next nucleus, else the pitch mask's length, and never above that length."
abbrev pub stop_of : Option ℕ → ℕ → ℕ
stop_of next len = min (unwrap_or next len) len

-- "Yes exactly if the run has 5 frames or more and it is not joined. Joined means that there is a next nucleus and the frame
-- after the run is at or past the stop, or pitched." The run starts at `first`, straight after the last pitched frame.
unfoldable pub tail_from : Option ℕ → List ℕ → List ℕ → ℕ → Bool
tail_from next pitched vowel first =
    let stop = stop_of next (length pitched) in
    let run = run_from pitched vowel first (stop - first) in
    let after = first + run in
    leb 5 run && not (is_some next && (leb stop after || marked pitched after))

-- a tail after the last pitched frame; "none means no"
abbrev pub tail_after : Option ℕ → Option ℕ → List ℕ → List ℕ → Bool
tail_after None next pitched vowel = false
tail_after (Some last) next pitched vowel = tail_from next pitched vowel (last + 1)

-- "each mask at most 2,048 bytes (3), no byte above 1 and no frame above 4,095 (5)"
unfoldable pub creaky_tail_of : ℕ → ℕ → Option ℕ → List ℕ → List ℕ → Outcome Bool
creaky_tail_of start end next pitched vowel =
    checked
    (rule 3 (ltb most_bytes (length pitched) || ltb most_bytes (length vowel))
    ∷ rule 5 (any_above 1 pitched || any_above 1 vowel || ltb last_frame start || ltb last_frame end || beyond last_frame next)
    ∷ [])
    (tail_after (last_pitched pitched start end) next pitched vowel)
