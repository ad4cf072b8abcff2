-- What the look ahead from a boundary needs of the anchors: the frames of the first two that are kept at or after it, and the
-- first one's row.
use Rattle.std.specs.Prelude.{ℕ, cond, leb}
use mathlib.Core.List.{List, [], ◌∷◌, tail}
use Rattle.paths.specs.Anchors.{Anchor, select, row_or}

-- the anchors at or after a frame
unfoldable pub ahead : List Anchor → ℕ → List Anchor
unfolding select
ahead anchors from = select (λ anchor. leb from anchor.frame) anchors

-- the frame of the first of a list of anchors; where it is empty, one that no boundary passes
abbrev pub frame_or : ℕ → List Anchor → ℕ
frame_or beyond [] = beyond
frame_or beyond (anchor ∷ more) = anchor.frame

unfoldable pub first_ahead : ℕ → List Anchor → ℕ → ℕ
unfolding ahead
first_ahead beyond anchors from = frame_or beyond (ahead anchors from)

unfoldable pub second_ahead : ℕ → List Anchor → ℕ → ℕ
unfolding ahead
second_ahead beyond anchors from = frame_or beyond (tail (ahead anchors from))

unfoldable pub row_ahead : ℕ → List Anchor → ℕ → ℕ
unfolding ahead
row_ahead row anchors from = row_or row (ahead anchors from)

-- How many anchors a unit up to a frame takes in, by the first two ahead of its start; 2 stands for two or more.
abbrev pub taken_in : ℕ → ℕ → ℕ → ℕ
taken_in first second to = cond (leb to first) 0 (cond (leb to second) 1 2)
