-- The last kept anchor before a boundary stands one before the boundary's place.
use Prim.Native.Nat.{ℕ, zero, suc, ◌≤◌, ◌<◌}
use mathlib.Core.Path.{◌≡◌, refl, sym, ap, ◌∙◌}
use mathlib.Core.List.{List, [], ◌∷◌, map}
use native.Mathlib.Omega.{arith}
use borrow.Author.Tests.{lt-ltb, le-ltb}
use lib.ListN.{length, get_or, take, drop}
use lib.Seq.{drop-cons}
use Rattle.laws.proofs.Numbers.{by_order}
use Rattle.laws.specs.Inner.Tables.{padded}
use Rattle.paths.specs.Anchors.{Anchor, select}
use Rattle.paths.specs.Inner.Ranges.{before, last_of}
use Rattle.stages.specs.Kept.{frames_of}
use Rattle.stages.specs.Places.{Climbs, count_below}
use Rattle.stages.specs.Search.{entry_before}
use Rattle.stages.proofs.Places.{none_below}
use Rattle.stages.proofs.Held.{figure_from}

-- ---- the last of the anchors before a boundary

-- those before it are as many as its place says
pub before_take : (anchors : List Anchor) (low high bound : ℕ) → Climbs low high (frames_of anchors)
    → before anchors bound ≡ take (count_below (frames_of anchors) bound) anchors
unfolding before select count_below
before_take [] low high bound climbs = refl
before_take (anchor ∷ anchors) low high bound climbs =
    let known = before_take anchors anchor.frame high bound climbs.1 in
    by_order anchor.frame bound
    (λ less. simp (lt-ltb anchor.frame bound less) (ap (λ (rest : List Anchor). anchor ∷ rest) known))
    (λ more.
    let none : count_below (frames_of anchors) bound ≡ 0 = none_below (frames_of anchors) anchor.frame high bound climbs.1 more in
    simp (le-ltb anchor.frame bound more, none) (known ∙ ap (λ (n : ℕ). take n anchors) none))

-- the last of those up to a place, of which there are some
pub last_take : (anchors : List Anchor) (place : ℕ) (none : Anchor) → place < length anchors
    → last_of (take (suc place) anchors) ≡ get_or anchors place none ∷ []
unfolding last_of
last_take [] place none h = absurd (omega arith)
last_take (anchor ∷ anchors) zero none h = refl
last_take (anchor ∷ []) (suc place) none h = absurd (omega arith)
last_take (anchor ∷ next ∷ anchors) (suc place) none h = last_take (next ∷ anchors) place none (omega arith)

-- One figure of it: where the anchors stand in an array, that is the entry before the place.
pub figure_before_law : (f : Anchor → ℕ) (g : List Anchor → ℕ) → ((anchor : Anchor) (anchors : List Anchor) → g (anchor ∷ anchors) ≡ f anchor)
    → g [] ≡ 0
    → (anchors : List Anchor) (size place : ℕ) → length anchors ≤ size → place ≤ length anchors
    → entry_before (padded (map f anchors) size (g [])) place ≡ g (last_of (take place anchors))
unfolding last_of
figure_before_law f g first none anchors size zero h k = sym none
figure_before_law f g first none anchors size (suc place) h k =
    let some : Anchor = record { frame = 0; row = 0 } in
    figure_from f g first anchors size place (omega arith) ∙ ap g (drop-cons anchors place some k)
    ∙ first (get_or anchors place some) (drop (suc place) anchors)
    ∙ sym (ap g (last_take anchors place some k) ∙ first (get_or anchors place some) [])
