-- The next smaller gap.
use Rattle.std.specs.Prelude.{ℕ, zero, max, cond, List, [], ◌∷◌, ltb}

-- the largest of some numbers that are below a limit, or 0
unfoldable pub largest_below : ℕ → List ℕ → ℕ
largest_below limit [] = zero
largest_below limit (g ∷ gs) = max (cond (ltb g limit) g 0) (largest_below limit gs)
