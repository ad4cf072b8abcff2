-- The optimality theorem, from the laws of IEEE 754: rounded addition and subtraction are monotone, so the best way into each cell
-- is the start of a best path.
use Rattle.paths.specs.Theory.PathSystem.{done}
use Prim.Native.Nat.{ℕ, ◌≤◌}
use native.Mathlib.Omega.{arith}
use mathlib.Core.Path.{◌≡◌}
use lib.Dec.{T}
use lib.Ieee.{Float, binary64, le, eq}
use Rattle.ieee.specs.Inner.Value.{Real}
use Rattle.ieee.proofs.Order.{le_refl, le_trans, lt→le, not-lt→ge, le_antisym}
use Rattle.ieee.proofs.Monotone.{add_mono, sub_mono}
use Rattle.paths.specs.Problem.{Problem}
use Rattle.paths.specs.Path.{Path, count, sum, Best}
use Rattle.paths.specs.Cell.{held}
use Rattle.paths.specs.CellRule.{chosen_path}
use Rattle.paths.specs.Theory.PathSystem.{State, on, Move, by_gap, by_unit, stop, path_system, allows, next}
use Rattle.paths.specs.Theory.Finite.{Finite}
use Rattle.paths.proofs.BestRoutes.{Ordered}
use Rattle.paths.proofs.Chosen.{chosen_best_of}

module _ (q : Problem) (k : ℕ) (finite : Finite q k) where
  steps_grow :
      (x : State) (e : Move) (u v : Float) → allows q k x e → Real binary64 u → Real binary64 v →
      Real binary64 (next q x e u) → Real binary64 (next q x e v) → T (le u v) → T (le (next q x e u) (next q x e v))
  steps_grow (done _) e u v al a b c d = elim al [ ]
  steps_grow (on s i) by_gap u v al a b c d = sub_mono a b (finite.gap_costs i al.1) c d
  steps_grow (on s i) (by_unit j) u v al a b c d = add_mono a b (finite.unit_values s i j al.0 al.1 al.2 al.3) c d
  steps_grow (on s i) stop u v al a b c d = sub_mono a b (finite.stop_costs i al.1) c d

  numbers : Ordered (path_system q k) (Real binary64) (λ u v. T (le u v))
  numbers = record {
    same = λ u a. le_refl a;
    through = λ u v w a b c. le_trans a b c;
    up = λ u v a b. lt→le a b;
    stay = λ u v a b. not-lt→ge a b;
    steps = steps_grow;
  }

  -- what the cell rule chooses is admitted, has the count, and no admitted path of that count has a larger sum
  pub chosen_best : (p : Path) → chosen_path q k ≡ held p → Best q k p
  chosen_best = chosen_best_of q k (Real binary64) numbers finite.values finite.sums

  -- all best paths have one sum, as a number: a zero's sign aside
  pub best_sums_equal : {p r : Path} → Best q k p → Best q k r → T (eq (sum q p) (sum q r))
  best_sums_equal {p} {r} b c =
      le_antisym (finite.sums p b.admitted (at_most b)) (finite.sums r c.admitted (at_most c))
      (c.largest p b.admitted b.counted) (b.largest r c.admitted c.counted)
    where
      at_most : {p : Path} → Best q k p → count p ≤ k
      at_most b = omega arith
