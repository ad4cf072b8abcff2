-- The exact sum of a path (document 02, Ask 4), beside `value` and `sum` of paths/specs/Path.antt and over the same paths: the same figures
-- as whole numbers, with nothing rounded.
use Rattle.std.specs.Prelude.{ℕ, ℤ, ◌+ℤ◌, ◌-ℤ◌}
use Rattle.paths.specs.Path.{Path, begin, gap, unit, end, count}

-- The four values of a `Problem` (paths/specs/Problem.antt), without its size and without which units it admits.
pub record ExactFigures : Type 0 where
  pub start : ℕ → ℤ
  pub gap_cost : ℕ → ℤ
  pub unit_value : ℕ → ℕ → ℕ → ℤ
  pub stop_cost : ℕ → ℤ

-- the start's value with each step applied
unfoldable pub exact_value : ExactFigures → Path → ℤ
unfolding end count
exact_value x (begin j) = x.start j
exact_value x (gap p) = exact_value x p -ℤ x.gap_cost (end p)
exact_value x (unit p j) = exact_value x p +ℤ x.unit_value (count p) (end p) j

-- and the end
unfoldable pub exact_sum : ExactFigures → Path → ℤ
unfolding exact_value end
exact_sum x p = exact_value x p -ℤ x.stop_cost (end p)
