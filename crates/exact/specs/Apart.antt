-- How far whole numbers are apart (document 02, Ask 4): "differs [..] by at most", "above that of the returned path by more than".
use Rattle.std.specs.Prelude.{ℕ, ℤ, pos, negsuc, nat_abs, ◌-ℤ◌}

-- how far a number is above 0, and 0 if it is not
abbrev pub above : ℤ → ℕ
above (pos n) = n
above (negsuc n) = 0

-- by how much two numbers differ, whichever is the larger
abbrev pub apart : ℤ → ℤ → ℕ
apart a b = nat_abs (a -ℤ b)

-- how far the first is above the second, and 0 if it is not
abbrev pub excess : ℤ → ℤ → ℕ
excess a b = above (a -ℤ b)
