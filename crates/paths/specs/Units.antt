-- Which units are admitted (document 01, "How a path is scored"): "A unit goes to a later boundary 6 to 80 frames on, holding
-- exactly one of the stage's anchors (strict) or none or one (relaxed)."
use Rattle.std.specs.Prelude.{ℕ, ◌-◌, Bool, ◌&&◌, List, leb, eqb, length}
use Rattle.limits.specs.Common.{shortest_unit, longest_unit}
use Rattle.paths.specs.declared.passes.Strictness.{Strictness}
use Rattle.paths.specs.declared.passes.Strictness.TheVariants.{Strict, Relaxed}
use Rattle.paths.specs.Anchors.{Anchor, held_in}

-- whether a unit may have so many frames
abbrev pub fits_unit : ℕ → Bool
fits_unit frames = leb shortest_unit frames && leb frames longest_unit

-- whether a unit may hold so many anchors
abbrev pub may_hold : Strictness → ℕ → Bool
may_hold Strict anchors = eqb anchors 1
may_hold Relaxed anchors = leb anchors 1

-- whether a unit may go from one frame to another, over the kept anchors of its stage
unfoldable pub admits_unit : Strictness → List Anchor → ℕ → ℕ → Bool
unfolding held_in
admits_unit strictness anchors from to = fits_unit (to - from) && may_hold strictness (length (held_in anchors from to))
