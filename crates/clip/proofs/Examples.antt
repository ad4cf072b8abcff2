-- Document 01's examples of clipping.
use mathlib.Core.Path.{◌≡◌, refl}
use mathlib.Core.List.{[], ◌∷◌}
use Prim.Native.Nat.{ℕ}
use Rattle.frames.specs.declared.span.Span.{Span}
use Rattle.clip.specs.Clip.{anchored, unanchored, reported}

abbrev span : ℕ → ℕ → Span
span start end = record { start = start; end = end }

-- "clip of 10..22 between anchored 4..14 and 18..30 gives 14..18"
pub between : reported (anchored (span 4 14) ∷ unanchored (span 10 22) ∷ anchored (span 18 30) ∷ []) ≡ span 4 14 ∷ span 14 18 ∷ span 18 30 ∷ []
unfolding reported
between = refl

-- "first unit 20..28 before anchored 15..30 gives 20..20"
pub at_first : reported (unanchored (span 20 28) ∷ anchored (span 15 30) ∷ []) ≡ span 20 20 ∷ span 15 30 ∷ []
unfolding reported
at_first = refl
