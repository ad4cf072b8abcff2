-- Frames, the mask and speech counts (document 01, "How a path is scored").
use Rattle.std.specs.Prelude.{ℕ, zero, suc, ◌+◌, ◌-◌, min, Bool, not, ◌&&◌, cond, List, ltb, eqb, length, get_or}

-- "A frame is within the record's mask if it is below F and its byte is not 0."
unfoldable pub within_mask : List ℕ → ℕ → Bool
within_mask mask frame = ltb frame (length mask) && not (eqb (get_or mask frame 0) 0)

-- What a frame adds to a speech count, by its mask byte: "1 for speech".
unfoldable pub weight : ℕ → ℕ
weight byte = cond (eqb byte 0) 0 1

-- the weights of the n frames from `from` on
unfoldable pub speech_from : List ℕ → ℕ → ℕ → ℕ
unfolding weight
speech_from mask from zero = 0
speech_from mask from (suc n) = speech_from mask from n + weight (get_or mask (from + n) 0)

-- "A count from..to takes frames from up to but not including `to`, both clamped to F."
unfoldable pub speech_in : List ℕ → ℕ → ℕ → ℕ
unfolding speech_from
speech_in mask from to = speech_from mask (min from (length mask)) (min to (length mask) - min from (length mask))
