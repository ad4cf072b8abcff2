-- The refusals of a record: document 01's table "What the decoder says no with" as an ordered list of rules, of which the first whose
-- condition holds names the refusal.
use Rattle.std.specs.Prelude.{ℕ, zero, suc, List, [], ◌∷◌, ◌++◌}
use Rattle.std.proofs.Math.Option.{Option}
use Rattle.laws.specs.Rules.{Rule, rule, first_of}
use Rattle.record.specs.Layout.{trailer_start, trailer_of, layout_of, limits_of}
use Rattle.record.specs.Conditions.{stub, other_edition, oversized, overreaching, bad_track, bad_cost, bare, repeated, bad_units, bad_column, short_desk}
use Rattle.limits.specs.declared.edition.Limits.{Limits}
use Rattle.limits.specs.declared.refusal.Refusal.{Refusal}
use Rattle.limits.specs.declared.refusal.Refusal.TheVariants.{Stub, Edition, Size, Reach, Track, Cost, Bare, Twice, Units, Column, Desk}

-- 1 to 4: what the length and the trailer say.
unfoldable pub trailer_rules : Limits → List ℕ → List (Rule Refusal)
trailer_rules l bytes =
    rule Stub (stub bytes)
    ∷ rule Edition (other_edition l (trailer_of bytes))
    ∷ rule Size (oversized l (trailer_of bytes))
    ∷ rule Reach (overreaching l (trailer_start bytes) (trailer_of bytes))
    ∷ []

-- 5 to 7: what the sections hold.
unfoldable pub content_rules : List ℕ → List (Rule Refusal)
content_rules bytes =
    rule Track (bad_track bytes (layout_of bytes))
    ∷ rule Cost (bad_cost bytes (layout_of bytes))
    ∷ rule Bare (bare (layout_of bytes))
    ∷ []

-- "The lowest applicable number is given": 1 to 7.
unfoldable pub first_rules : Limits → List ℕ → List (Rule Refusal)
first_rules l bytes = trailer_rules l bytes ++ content_rules bytes

-- "8, 9 and 10 are tested candidate by candidate, in that order within each": the rules of n candidates from number i on.
unfoldable pub candidate_rules : Limits → List ℕ → ℕ → ℕ → List (Rule Refusal)
candidate_rules l bytes i zero = []
candidate_rules l bytes i (suc n) =
    rule Twice (repeated l bytes (layout_of bytes) i)
    ∷ rule Units (bad_units l bytes (layout_of bytes) i)
    ∷ rule Column (bad_column l bytes (layout_of bytes) i)
    ∷ candidate_rules l bytes (suc i) n

-- The rules that are the record's own, 1 to 10.
unfoldable pub own_rules : Limits → List ℕ → List (Rule Refusal)
own_rules l bytes = first_rules l bytes ++ candidate_rules l bytes zero (layout_of bytes).candidates.count

unfoldable pub refusal_of : List ℕ → Option Refusal
refusal_of bytes = first_of (own_rules (limits_of bytes) bytes)

-- 11 comes on top, where buffers are lent: work areas of `best` and `back` cells and an output of `out` words.
unfoldable pub refusal_with : List ℕ → ℕ → ℕ → ℕ → Option Refusal
refusal_with bytes best back out =
    first_of (own_rules (limits_of bytes) bytes ++ (rule Desk (short_desk (limits_of bytes) (layout_of bytes).candidates.count best back out) ∷ []))
