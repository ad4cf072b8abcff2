-- Figures as whole numbers (document 02, Ask 4): "The exact sum is stated over whole numbers, all figures scaled by one power of two".
use Rattle.std.specs.Prelude.{ℕ, ◌*◌, ◌/◌, ◌^◌, Bool, cond, ℤ, pos, neg_ℤ, Float}
use Rattle.std.specs.Float.{nan, inf, fin}
use Rattle.std.specs.Float.Ieee.{up, down}

-- The power of two: so many parts make 1. Every finite f64 is a whole multiple of 2 ^ -1074, so that half of one is a whole number of parts too.
unfoldable pub scale : ℕ
scale = 2 ^ 1075

abbrev signed : Bool → ℕ → ℤ
signed negative n = cond negative (neg_ℤ (pos n)) (pos n)

-- A figure, which is ±m * 2 ^ e, times the power of two. Of an f64 no remainder is cut off: `nothing_cut` (proofs/Scaled.antt). A NaN and an
-- infinity read as 0; no figure that a path of an accepted record takes is one.
unfoldable pub scaled : Float → ℤ
unfolding scale
scaled nan = pos 0
scaled (inf s) = pos 0
scaled (fin s m e) = signed s (m * up e * scale / down e)
