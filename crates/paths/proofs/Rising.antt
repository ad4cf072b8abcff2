-- Kept anchors stand in the order of their frames. Assumes nothing.
use mathlib.Core.Bool.{Bool}
use mathlib.Core.List.{List, [], ◌∷◌}
use Prim.Native.Nat.{ℕ, suc, ◌≤◌, ◌<◌, suc-le-suc}
use native.Mathlib.Nat.{le_trans}
use native.Mathlib.Omega.{arith}
use lib.ListN.{length, get_or}
use Rattle.laws.proofs.Tests.{by_choice}
use Rattle.paths.specs.Frames.{within_mask}
use Rattle.paths.specs.Inner.Order.{Increasing}
use Rattle.paths.specs.Anchors.{Anchor, select, numbered, kept_in}

-- anchors from a frame on, in strictly increasing order
pub data Rising : ℕ → List Anchor → Type 0 where
  no_more : {low : ℕ} → Rising low []
  and_then : {low : ℕ} {anchor : Anchor} {anchors : List Anchor} → low ≤ anchor.frame → Rising (suc anchor.frame) anchors
      → Rising low (anchor ∷ anchors)

rising_from : {low lower : ℕ} {anchors : List Anchor} → lower ≤ low → Rising low anchors → Rising lower anchors
rising_from h no_more = no_more
rising_from h (and_then g r) = and_then (le_trans h g) r

pub rising_select : (test : Anchor → Bool) {low : ℕ} {anchors : List Anchor} → Rising low anchors → Rising low (select test anchors)
unfolding select
rising_select test no_more = no_more
rising_select test (and_then {low = low} {anchor = anchor} h r) =
    by_choice (Rising low) (test anchor) (λ t. and_then h (rising_select test r)) (λ t. rising_from (omega arith) (rising_select test r))

rising_numbered : (low row : ℕ) (frames : List ℕ) → (0 < length frames → low ≤ get_or frames 0 0) → Increasing frames
    → Rising low (numbered row frames)
unfolding numbered
rising_numbered low row [] h increasing = no_more
rising_numbered low row (frame ∷ frames) h increasing =
    and_then (h (omega arith))
    (rising_numbered (suc frame) (suc row) frames (λ more. increasing 0 (suc-le-suc more)) (λ i more. increasing (suc i) (suc-le-suc more)))

pub kept_rising : (mask : List ℕ) (row : ℕ) (frames : List ℕ) → Increasing frames → Rising 0 (kept_in mask row frames)
unfolding kept_in
kept_rising mask row frames increasing =
    rising_select (λ anchor. within_mask mask anchor.frame) (rising_numbered 0 row frames (λ more. omega arith) increasing)
