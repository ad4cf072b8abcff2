-- What the cell rule chooses: a best path of the count asked for, and none exactly where no path of that count is admitted.
use Prim.Native.Nat.{ℕ, ◌≤◌}
use native.Mathlib.Omega.{arith}
use mathlib.Core.Path.{◌≡◌, refl, sym, ap, subst, subst₂, ◌∙◌}
use mathlib.Core.Logic.{◌↔◌}
use lib.Dec.{T, leb, le→leb}
use lib.Ieee.{Float, le}
use Rattle.paths.specs.Problem.{Problem}
use Rattle.paths.specs.Path.{Path, count, value, sum, Admitted, Best, NoPath}
use Rattle.paths.specs.Cell.{Cell, empty, held, carry}
use Rattle.paths.specs.CellRule.{chosen_path}
use Rattle.paths.specs.Theory.System.{Route, step, Runs, Ends, value_of}
use Rattle.paths.specs.Theory.PathSystem.{State, done, Move, stop, path_system, route}
use Rattle.paths.proofs.Cells.{only_true}
use Rattle.paths.proofs.BestRoutes.{Ordered, best_ends, best_largest, empty_none}
use Rattle.paths.proofs.PathWays.{layered}
use Rattle.paths.proofs.PathRoutes.{ended_value, ended_state, admitted_ends, ends_admitted, Seen, seen_path, seen_end, seen, route_value}
use Rattle.paths.proofs.Rows.{cells, rows_table}

done_same : {s k : ℕ} → done s ≡ done k → s ≡ k
done_same e = cc

module _ (q : Problem) (k : ℕ) where
  -- the cell of the end
  at_done : cells q k (done k) ≡ carry (λ p. step (route p) stop) (chosen_path q k)
  unfolding cells
  at_done = ap (carry (λ p. step (route p) stop)) (only_true (leb k k) (chosen_path q k) (le→leb k k (omega arith)))

  chosen_held : (p : Path) → chosen_path q k ≡ held p → cells q k (done k) ≡ held (step (route p) stop)
  unfolding carry
  chosen_held p e = at_done ∙ ap (carry (λ p. step (route p) stop)) e

  path_ends : {r : Path} → Admitted q r → count r ≡ k → Ends (path_system q k) (done k) (step (route r) stop)
  path_ends {r} a h = record { runs = admitted_ends q k a (omega arith); ends = ended_state q k r ∙ ap done h }

  chosen_ends : (p : Path) → chosen_path q k ≡ held p → Ends (path_system q k) (done k) (step (route p) stop)
  chosen_ends p e = best_ends (path_system q k) (layered q k) (cells q k) (rows_table q k) (done k) (step (route p) stop) (chosen_held p e)

  pub chosen_admitted : (p : Path) → chosen_path q k ≡ held p → Admitted q p
  chosen_admitted p e = ends_admitted q k p (chosen_ends p e).runs

  pub chosen_count : (p : Path) → chosen_path q k ≡ held p → count p ≡ k
  chosen_count p e = done_same (sym (ended_state q k p) ∙ (chosen_ends p e).ends)

  pub none_chosen : chosen_path q k ≡ empty → NoPath q k
  unfolding NoPath carry
  none_chosen e r a h =
      empty_none (path_system q k) (layered q k) (cells q k) (rows_table q k) (done k)
      (at_done ∙ ap (carry (λ p. step (route p) stop)) e) (step (route r) stop) (path_ends a h)

  pub no_path_none : NoPath q k → chosen_path q k ≡ empty
  unfolding NoPath
  no_path_none no_path = go (chosen_path q k) refl
    where
      go : (c : Cell Path) → chosen_path q k ≡ c → c ≡ empty
      go empty e = refl
      go (held p) e = absurd (no_path p (chosen_admitted p e) (chosen_count p e))

  -- none is chosen exactly where no path of the count is admitted, whatever the figures
  pub chosen_empty : (chosen_path q k ≡ empty) ↔ NoPath q k
  chosen_empty = (none_chosen, no_path_none)

  module _ (Ok : Float → Type 0) (ordered : Ordered (path_system q k) Ok (λ u v. T (le u v)))
      (values : (p : Path) → Admitted q p → count p ≤ k → Ok (value q p))
      (sums : (p : Path) → Admitted q p → count p ≤ k → Ok (sum q p)) where
    all_ok : (r : Route State Move) → Runs (path_system q k) r → Ok (value_of (path_system q k) r)
    all_ok r run = go (seen q k run)
      where
        go : {r : Route State Move} → Seen q k r → Ok (value_of (path_system q k) r)
        go (seen_path p a h) = subst Ok (sym (route_value q k p)) (values p a h)
        go (seen_end p a h) = subst Ok (sym (ended_value q k p)) (sums p a h)

    chosen_largest : (p r : Path) → chosen_path q k ≡ held p → Admitted q r → count r ≡ k → T (le (sum q r) (sum q p))
    chosen_largest p r e a h =
        subst₂ (λ u v. T (le u v)) (ended_value q k r) (ended_value q k p)
        (best_largest (path_system q k) (layered q k) (cells q k) (rows_table q k) Ok (λ u v. T (le u v)) ordered all_ok (done k)
        (step (route p) stop) (step (route r) stop) (chosen_held p e) (path_ends a h))

    pub chosen_best_of : (p : Path) → chosen_path q k ≡ held p → Best q k p
    chosen_best_of p e = record { admitted = chosen_admitted p e; counted = chosen_count p e; largest = λ r a h. chosen_largest p r e a h }
