-- The origins of the units that end at a boundary, which are one range, and the first boundary that each count of units reaches. Nothing
-- here is a rule: each follows from which units are admitted, and the laws are in proofs/Ranges.antt and proofs/Reached.antt.
use Rattle.std.specs.Prelude.{ℕ, zero, suc, ◌≤◌, ◌<◌, Bool, ◌&&◌, List, [], ◌∷◌, ◌≡◌, leb, ltb, get_or}
use Rattle.laws.specs.Inner.Range.{first_from, past_last}
use Rattle.paths.specs.declared.passes.Strictness.{Strictness}
use Rattle.paths.specs.declared.passes.Strictness.TheVariants.{Relaxed}
use Rattle.paths.specs.Anchors.{Anchor, select, row_or}
use Rattle.paths.specs.Units.{admits_unit}

-- whether a unit may end at boundary j that starts at boundary i, over anchors and boundaries
abbrev pub goes_to : Strictness → List Anchor → List ℕ → ℕ → ℕ → Bool
goes_to strictness anchors bounds j i = admits_unit strictness anchors (get_or bounds i 0) (get_or bounds j 0)

-- the lowest origin of the units that end at boundary j; 0 where there is none
unfoldable pub low_origin : List Anchor → List ℕ → ℕ → ℕ
unfolding first_from
low_origin anchors bounds j = first_from 0 (goes_to Relaxed anchors bounds j) 0 j

-- one past the highest origin of those that a strictness asks for; 0 where there is none
unfoldable pub origins_end : Strictness → List Anchor → List ℕ → ℕ → ℕ
unfolding past_last
origins_end strictness anchors bounds j = past_last (goes_to strictness anchors bounds j) j

abbrev pub in_range : ℕ → ℕ → ℕ → Bool
in_range low end i = leb low i && ltb i end

-- The origins of the units that end at each of n boundaries: those from `low` up to but not including `end`.
pub record Origins (ok : ℕ → ℕ → Bool) (n : ℕ) (low end : ℕ → ℕ) : Type 0 where
  pub ranged : (i j : ℕ) → i < j → j < n → ok i j ≡ in_range (low j) (end j) i
  pub earlier : (j : ℕ) → j < n → end j ≤ j

-- whether a unit goes to boundary j from one that is not before `since`
abbrev pub arrives_from : (ℕ → ℕ) → (ℕ → ℕ) → ℕ → ℕ → Bool
arrives_from low end since j = ltb since (end j) && ltb (low j) (end j)

-- the first of n boundaries that a path of so many units reaches; n where it reaches none
unfoldable pub first_reached : (ℕ → ℕ) → (ℕ → ℕ) → ℕ → ℕ → ℕ
unfolding first_from
first_reached low end n zero = zero
first_reached low end n (suc s) = first_from n (arrives_from low end (first_reached low end n s)) zero n

-- the anchors before a frame, and the last of a list of anchors, by itself
unfoldable pub before : List Anchor → ℕ → List Anchor
unfolding select
before anchors to = select (λ anchor. ltb anchor.frame to) anchors

unfoldable pub last_of : List Anchor → List Anchor
last_of [] = []
last_of (anchor ∷ []) = anchor ∷ []
last_of (anchor ∷ next ∷ more) = last_of (next ∷ more)

-- the row of the last anchor before a frame, or a word for none
abbrev pub row_before : ℕ → List Anchor → ℕ → ℕ
row_before row anchors to = row_or row (last_of (before anchors to))
