-- Every value and every sum of an admitted path is finite: each figure has a whole-number bound, and they add up. Assumes nothing.
use Prim.Native.Nat.{ℕ, suc, ◌+◌, ◌*◌, ◌^◌, ◌≤◌}
use native.Mathlib.Nat.{mul-le-mul_right, suc-mul}
use native.Mathlib.Omega.{arith}
use lib.Ieee.{binary64, prec}
use Rattle.ieee.specs.Inner.Value.{Within}
use Rattle.ieee.proofs.Magnitude.{add_within, sub_within, weaken}
use Rattle.paths.specs.Problem.{Problem}
use Rattle.paths.specs.Path.{Path, end, Admitted, begins, gaps, units, value, sum}
use Rattle.paths.specs.Theory.Bounded.{Figures}
use Rattle.paths.specs.Theory.Finite.{Finite}
use Rattle.paths.proofs.PathRoutes.{end_inside}

module _ {q : Problem} {edge step : ℕ} (figures : Figures q edge step) where
  -- there is room up to each boundary
  room_to : (j : ℕ) → j ≤ q.size → edge + j * step ≤ 2 ^ prec binary64
  room_to j h = omega (arith, figures.room, mul-le-mul_right step h)

  value_within : {p : Path} → Admitted q p → Within binary64 (value q p) (edge + end p * step)
  unfolding value end
  value_within (begins {j = j} h) = weaken (edge + j * step) (omega arith) (figures.starts j h)
  value_within (gaps {p = p} a h) =
      weaken (edge + suc (end p) * step) (omega (arith, suc-mul (end p) step))
      (sub_within (value_within a) (figures.gaps (end p) h) (omega (arith, suc-mul (end p) step, room_to (suc (end p)) (omega arith))))
  value_within (units {p = p} {j = j} a h k ok) =
      weaken (edge + j * step) (omega (arith, suc-mul (end p) step, mul-le-mul_right step h))
      (add_within (value_within a) (figures.units _ (end p) j h k ok)
      (omega (arith, suc-mul (end p) step, mul-le-mul_right step h, room_to j (omega arith))))

  sum_within : {p : Path} → Admitted q p → Within binary64 (sum q p) (edge + end p * step + edge)
  unfolding sum
  sum_within {p} a =
      sub_within (value_within a) (figures.stops (end p) (end_inside a))
      (omega (arith, figures.room, mul-le-mul_right {m = end p} {n = q.size} step (omega (arith, end_inside a))))

  pub finite : (k : ℕ) → Finite q k
  finite k = record {
    gap_costs = λ j h. (figures.gaps j h).real;
    unit_values = λ s i j below h l ok. (figures.units s i j h l ok).real;
    stop_costs = λ j h. (figures.stops j h).real;
    values = λ p a most. (value_within a).real;
    sums = λ p a most. (sum_within a).real;
  }
