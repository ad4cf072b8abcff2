-- The units of an admitted path: as many as its count, each admitted by the problem, and each from where the one before ended or later.
use Prim.Native.Nat.{ℕ, ◌≤◌, ◌<◌}
use native.Mathlib.Nat.{le_refl, le_step}
use native.Mathlib.Omega.{arith}
use mathlib.Core.Path.{◌≡◌, refl, ◌∙◌}
use mathlib.Core.List.{List, [], ◌∷◌, ◌++◌}
use lib.Dec.{T}
use lib.ListN.{length, length-append}
use Rattle.paths.specs.Problem.{Problem}
use Rattle.paths.specs.Path.{Path, begin, gap, unit, end, count, Admitted, begins, gaps, units, Bounds, units_of}

pub units_count : (p : Path) → length (units_of p) ≡ count p
unfolding units_of count
units_count (begin j) = refl
units_count (gap p) = units_count p
units_count (unit p j) = length-append (units_of p) _ ∙ omega (arith, units_count p)

-- Units in path order that end at a boundary or before it.
pub data InOrder (q : Problem) : List Bounds → ℕ → Type 0 where
  no_units : {j : ℕ} → InOrder q [] j
  later_end : {us : List Bounds} {i j : ℕ} → InOrder q us i → i ≤ j → InOrder q us j
  one_more :
      {us : List Bounds} {i j : ℕ} → InOrder q us i → i < j → j < q.size → T (q.unit_ok i j) →
      InOrder q (us ++ (record { first = i; last = j } ∷ [])) j

pub units_in_order : {q : Problem} {p : Path} → Admitted q p → InOrder q (units_of p) (end p)
unfolding units_of end
units_in_order (begins l) = no_units
units_in_order (gaps {p = p} a l) = later_end (units_in_order a) (le_step (le_refl (end p)))
units_in_order (units a l b ok) = one_more (units_in_order a) l b ok
