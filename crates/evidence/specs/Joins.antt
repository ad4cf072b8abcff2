-- `joins` (document 01, "Spans, marks and order").
use Rattle.std.specs.Prelude.{ℕ, ◌+◌, ◌-◌, Bool, ◌&&◌, ◌||◌, List, [], ◌∷◌, leb, ltb, length}
use Rattle.limits.specs.Common.{last_frame}
use Rattle.laws.specs.Rules.{rule}
use Rattle.frames.specs.Outcome.{Outcome, checked, any_above, most_bytes}
use Rattle.evidence.specs.Masks.{all_marked}
use Rattle.evidence.specs.declared.joins.Joined.{Joined}

-- "yes exactly if e ≥ 3, e + 3 is at most the voice mask's length, voice frames e − 3 to e + 2 are all 1, and pitch frames
-- e − 3 to e all exist and are 1"
unfoldable pub joined : List ℕ → List ℕ → ℕ → Bool
joined voice pitched e =
    leb 3 e && leb (e + 3) (length voice) && all_marked voice (e - 3) 6 && all_marked pitched (e - 3) 4

-- "each mask at most 2,048 bytes (3), no byte above 1 and no frame above 4,095 (5)"; then which edges of the span are joined
unfoldable pub joins_of : List ℕ → List ℕ → ℕ → ℕ → Outcome Joined
joins_of voice pitched start end =
    checked
    (rule 3 (ltb most_bytes (length voice) || ltb most_bytes (length pitched))
    ∷ rule 5 (any_above 1 voice || any_above 1 pitched || ltb last_frame start || ltb last_frame end)
    ∷ [])
    (record { start = joined voice pitched start; end = joined voice pitched end })
