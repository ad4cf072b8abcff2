-- The anchors of a stage that are kept, with their score rows, and those that a stretch of frames holds
-- (document 01, "How a path is scored").
use Rattle.std.specs.Prelude.{ℕ, suc, Bool, cond, ◌&&◌, List, [], ◌∷◌, leb, ltb}
use Rattle.phrase.specs.Phrase.{Phrase, Stage}
use Rattle.paths.specs.Frames.{within_mask}

pub record Anchor : Type 0 where
  pub frame : ℕ
  pub row : ℕ

-- the anchors of a list that pass a test, in their order
unfoldable pub select : (Anchor → Bool) → List Anchor → List Anchor
select test [] = []
select test (anchor ∷ anchors) = let rest = select test anchors in cond (test anchor) (anchor ∷ rest) rest

-- "Rows are nuclei, then anchors": a row is the anchor's place in its list, counted from the first row of the stage.
unfoldable pub numbered : ℕ → List ℕ → List Anchor
numbered row [] = []
numbered row (frame ∷ frames) = record { frame = frame; row = row } ∷ numbered (suc row) frames

-- "Nuclei and anchors outside the mask are dropped." The others keep their rows.
unfoldable pub kept_in : List ℕ → ℕ → List ℕ → List Anchor
unfolding select numbered within_mask
kept_in mask first_row frames = select (λ anchor. within_mask mask anchor.frame) (numbered first_row frames)

abbrev pub kept : Phrase → Stage → List Anchor
kept phrase stage = kept_in phrase.mask stage.first_row stage.anchors

-- "A unit holds the anchors from its first boundary up to but not including its last." Filler counts its nuclei the
-- same way: a kept one lies below F, so that clamping `from` and `to` to F changes nothing.
unfoldable pub held_in : List Anchor → ℕ → ℕ → List Anchor
unfolding select
held_in anchors from to = select (λ anchor. leb from anchor.frame && ltb anchor.frame to) anchors

-- the row of the first of a list of anchors, or a word for none
abbrev pub row_or : ℕ → List Anchor → ℕ
row_or row [] = row
row_or row (anchor ∷ more) = anchor.row
