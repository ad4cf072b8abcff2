-- The sum of every admitted path is near its exact sum, where its figures are. Errors add up along a path: at each boundary that of the
-- figure which leads there, and that of adding it. Assumes nothing.
use Prim.Native.Nat.{ℕ, zero, suc, ◌+◌, ◌-◌, ◌*◌, ◌^◌, ◌≤◌, ◌<◌}
use native.Mathlib.Nat.{le_refl, le_of_eq, lt_of_le_of_lt, mul-le-mul_left}
use native.Mathlib.Decide.{le_ind}
use native.Mathlib.Omega.{arith}
use lib.Dec.{leb, leb→le}
use lib.Ieee.{binary64, prec}
use Rattle.laws.proofs.Tests.{by_choice}
use Rattle.exact.specs.Theory.Close.{Errs, Close}
use Rattle.exact.proofs.Errors.{loosen, add_close, sub_close}
use Rattle.exact.proofs.HalfPlace.{double_place}
use Rattle.paths.specs.Problem.{Problem}
use Rattle.paths.specs.Path.{Path, end, Admitted, begins, gaps, units, value, sum}
use Rattle.paths.specs.Theory.Bounded.{Ranges, filler_bound}
use Rattle.paths.proofs.PathRoutes.{end_inside}
use Rattle.distance.specs.ExactSum.{ExactFigures, exact_value, exact_sum}
use Rattle.distance.specs.Theory.Growth.{Growth, grain_of, places_at, figure_grains, value_grains, sum_grains, unit_bound, Sharp, Stretches, CloseFigures}

-- ---- grains

some_grains : (g : Growth) (j : ℕ) → figure_grains ≤ value_grains g j
unfolding value_grains
some_grains g zero = le_refl 3
some_grains g (suc j) = omega (arith, some_grains g j)

-- no fewer at a later boundary
grains_le : (g : Growth) {i j : ℕ} → i ≤ j → value_grains g i ≤ value_grains g j
unfolding value_grains
grains_le g {i} {j} h = le_ind (λ (k : ℕ). value_grains g i ≤ value_grains g k) (le_refl (value_grains g i)) (λ m l rest. omega arith) j h

-- a step to a later boundary
grains_step : (g : Growth) (i j : ℕ) → i < j → value_grains g i + figure_grains + 2 ^ places_at g j ≤ value_grains g j
unfolding value_grains
grains_step g i zero h = absurd (omega arith)
grains_step g i (suc j) h = omega (arith, grains_le g {i = i} {j = j} (omega arith))

-- ---- rounding a sum

module _ {most : Ranges} {g : Growth} {digits : ℕ} (sharp : Sharp most g digits) where
  at_places : (p : ℕ) → g.figures + p ≤ prec binary64 → Errs (grain_of g) (g.figures + p) (2 ^ p)
  at_places p h = record { digits = h; place = le_of_eq (double_place g.figures p) }

  errs_at : (j : ℕ) → Errs (grain_of g) (g.figures + places_at g j) (2 ^ places_at g j)
  errs_at j =
      at_places (places_at g j) (by_choice (λ (p : ℕ). g.figures + p ≤ prec binary64) (leb j g.early)
      (λ t. omega (arith, sharp.held)) (λ t. sharp.held))

  at_end : (j : ℕ) → j < most.boundaries → filler_bound most + unit_bound most * j < 2 ^ (g.figures + suc g.sums)
  at_end j h = lt_of_le_of_lt (omega (arith, mul-le-mul_left {m = j} {n = most.boundaries - 1} (unit_bound most) (omega arith))) sharp.late

  small_at : (j : ℕ) → j < most.boundaries → filler_bound most + unit_bound most * j < 2 ^ (g.figures + places_at g j)
  small_at j h =
      by_choice (λ (p : ℕ). filler_bound most + unit_bound most * j < 2 ^ (g.figures + p)) (leb j g.early)
      (λ t. lt_of_le_of_lt (omega (arith, mul-le-mul_left (unit_bound most) (leb→le j g.early t))) sharp.early)
      (λ t. at_end j h)

  -- ---- along a path

  module _ {q : Problem} {x : ExactFigures} {s : Stretches} (few : q.size ≤ most.boundaries)
      (close : CloseFigures q x (grain_of g) (filler_bound most) (unit_bound most) s) where
    value_close : {p : Path} → Admitted q p
        → Close (grain_of g) (value q p) (exact_value x p) (s.before (end p) + unit_bound most * end p) (value_grains g (end p))
    unfolding value exact_value end
    value_close (begins {j = j} h) =
        loosen (s.before j + unit_bound most * j) (value_grains g j) (omega arith) (some_grains g j) (close.starts j h)
    value_close (gaps {p = p} a h) =
        let i = end p in
        let step = mul-le-mul_left {m = i} {n = suc i} (unit_bound most) (omega arith) in
        let small = small_at (suc i) (omega arith) in
        loosen (s.before (suc i) + unit_bound most * suc i) (value_grains g (suc i)) (omega (arith, close.onward i h, step))
        (grains_step g i (suc i) (omega arith))
        (sub_close (errs_at (suc i)) (value_close a) (close.gaps i h)
        (omega (arith, close.onward i h, close.whole (suc i) h, step, small)))
    value_close (units {p = p} {j = j} a h k ok) =
        let i = end p in
        let step = mul-le-mul_left {m = suc i} {n = j} (unit_bound most) (omega arith) in
        let small = small_at j (omega arith) in
        loosen (s.before j + unit_bound most * j) (value_grains g j) (omega (arith, close.rising i j h k, step)) (grains_step g i j h)
        (add_close (errs_at j) (value_close a) (close.units _ i j h k ok)
        (omega (arith, close.rising i j h k, close.whole j k, step, small)))

    pub sum_close : {p : Path} → Admitted q p
        → Close (grain_of g) (sum q p) (exact_sum x p) (filler_bound most + unit_bound most * (most.boundaries - 1)) (sum_grains g most.boundaries)
    unfolding sum exact_sum sum_grains
    sum_close {p} a =
        let i = end p in
        let inside = end_inside a in
        let step = mul-le-mul_left {m = i} {n = most.boundaries - 1} (unit_bound most) (omega arith) in
        loosen _ _ (omega (arith, close.whole i inside, step)) (omega (arith, grains_le g {i = i} {j = most.boundaries - 1} (omega arith)))
        (sub_close (at_places (suc g.sums) sharp.held) (value_close a) (close.stops i inside)
        (omega (arith, close.whole i inside, at_end i (omega arith))))
