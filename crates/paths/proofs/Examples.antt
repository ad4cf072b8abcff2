-- The cell rule on small problems, by computation: what it does with equal values, which the optimality theorem leaves open.
use Prim.Native.Nat.{ℕ}
use mathlib.Core.Bool.{cond}
use mathlib.Core.Path.{◌≡◌, refl, ap}
use lib.Dec.{ltb, eqb}
use lib.Ieee.{Float, binary64, lt, add, sub, of_bits, neg, of_int}
use lib.IntN.{pos}
use Rattle.paths.specs.Problem.{Problem}
use Rattle.paths.specs.Path.{begin, gap, unit, sum}
use Rattle.paths.specs.Cell.{empty, held, best}
use Rattle.paths.specs.CellRule.{rows, paths, chosen_path}

pub nought : Float
nought = of_bits binary64 0

pub one : Float
one = of_int binary64 (pos 1)

-- Boundaries at frames 0, 6 and 12, relaxed, so that a unit may go between any two. All values are zero but what a gap costs.
pub three : Float → Problem
three cost = record {
  size = 3;
  start = λ j. nought;
  gap_cost = λ j. cost;
  unit_ok = ltb;
  unit_value = λ s i j. nought;
  stop_cost = λ j. nought;
}

-- "boundaries 0, 6, 12, all values zero, relaxed, one unit: 0..6": of equal ends the lowest boundary wins
pub lowest_end : chosen_path (three nought) 1 ≡ held (unit (begin 0) 1)
unfolding chosen_path sum three nought lt add sub of_bits
lowest_end = refl

-- an equal unit comes before the gap, and of two the one from the lowest origin
pub unit_first : rows (three nought) (paths (three nought)) 1 2 ≡ held (unit (begin 0) 2)
unfolding rows paths three nought lt add sub of_bits
unit_first = refl

-- an equal start comes before the gap
pub start_first : rows (three nought) (paths (three nought)) 0 1 ≡ held (begin 1)
unfolding rows paths three nought lt add sub of_bits
start_first = refl

-- a gap that gains replaces what came before it
pub greater_gap : chosen_path (three (neg one)) 0 ≡ held (gap (gap (begin 0)))
unfolding chosen_path sum three one nought lt add sub neg of_bits of_int
greater_gap = refl

-- "No boundaries: no path, even for 0 units."
pub no_boundaries : (q : Problem) (k : ℕ) → q.size ≡ 0 → chosen_path q k ≡ empty
unfolding chosen_path best
no_boundaries q k e = ap (λ n. best (λ p r. lt (sum q p) (sum q r)) n (rows q (paths q) k)) e

-- Two boundaries, and no unit: a path from the first has the sum -0, one from the second +0.
pub two_zeros : Problem
two_zeros = record {
  size = 2;
  start = λ j. cond (eqb j 0) (neg nought) nought;
  gap_cost = λ j. nought;
  unit_ok = ltb;
  unit_value = λ s i j. nought;
  stop_cost = λ j. nought;
}

-- the two are equal, so the lower boundary stands, and its sum keeps its sign
pub lower_zero : (chosen_path two_zeros 0 ≡ held (begin 0)) × (sum two_zeros (begin 0) ≡ neg nought)
unfolding chosen_path sum two_zeros nought lt add sub neg of_bits
lower_zero = (refl, refl)
