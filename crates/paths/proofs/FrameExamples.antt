-- Speech counts at their borders, by computation.
use mathlib.Core.List.{[], ◌∷◌}
use mathlib.Core.Path.{◌≡◌, refl}
use Rattle.paths.specs.Frames.{speech_in}

-- "up to but not including `to`"
pub to_excluded : speech_in (1 ∷ 0 ∷ 1 ∷ []) 0 2 ≡ 1
unfolding speech_in
to_excluded = refl

-- "both clamped to F"
pub to_clamped : speech_in (1 ∷ 0 ∷ 1 ∷ []) 0 9 ≡ 2
unfolding speech_in
to_clamped = refl

pub both_clamped : speech_in (1 ∷ 0 ∷ 1 ∷ []) 5 9 ≡ 0
unfolding speech_in
both_clamped = refl
