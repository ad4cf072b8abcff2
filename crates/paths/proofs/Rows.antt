-- The rows of the cell rule, and the end that it chooses, are the table of best routes of the path system.
use Prim.Native.Nat.{ℕ, zero, suc, ◌≤◌, ◌<◌}
use native.Mathlib.Omega.{arith}
use mathlib.Core.Path.{◌≡◌, refl, sym, ap, ap₂, fun_ext, ◌∙◌}
use mathlib.Core.Bool.{Bool, true, false, cond, ◌&&◌}
use lib.Dec.{T, leb, ltb, leb→le, ltb→lt}
use lib.Ieee.{lt}
use lib.Ieee.Fits.{and_l, and_r}
use Rattle.paths.specs.Problem.{Problem}
use Rattle.paths.specs.Path.{Path, begin, gap, unit, sum}
use Rattle.paths.specs.Cell.{Cell, held, keep, best, carry, only}
use Rattle.paths.specs.CellRule.{sweep, arrival, rows, paths, chosen_path}
use Rattle.paths.specs.Theory.System.{Route, start, step, Ways, none, ◌then◌, after, value_of}
use Rattle.paths.specs.Theory.Table.{gather, bring, Table, table_of, best_routes}
use Rattle.paths.specs.Theory.PathSystem.{State, on, done, Move, by_gap, by_unit, stop, ways_below, unit_ways, stop_ways, ways_in, ways_of, path_system, route}
use Rattle.paths.proofs.Cells.{keep_empty, carry_carry, only_true, carry_keep}
use Rattle.paths.proofs.Tables.{only_table, table_is}
use Rattle.paths.proofs.PathRoutes.{route_value, ended_value}
use Rattle.paths.proofs.PathWays.{layered, on_guard}

-- The cells within the problem and the count, as routes.
unfoldable pub cells : Problem → ℕ → State → Cell (Route State Move)
unfolding carry only
cells q k (on s j) = carry route (only (leb s k && ltb j q.size) (rows q (paths q) s j))
cells q k (done s) = carry (λ p. step (route p) stop) (only (leb s k) (chosen_path q s))

module _ (q : Problem) (k : ℕ) where
  by_value : Route State Move → Route State Move → Bool
  by_value r u = lt (value_of (path_system q k) r) (value_of (path_system q k) u)

  route_keep :
      (c d : Cell Path) → carry route (keep (paths q).less c d) ≡ keep by_value (carry route c) (carry route d)
  unfolding paths by_value
  route_keep = carry_keep (paths q).less by_value route (λ p r. sym (ap₂ lt (route_value q k p) (route_value q k r)))

  cells_on : (s j : ℕ) → s ≤ k → j < q.size → cells q k (on s j) ≡ carry route (rows q (paths q) s j)
  unfolding cells
  cells_on s j a b = ap (carry route) (only_true (leb s k && ltb j q.size) (rows q (paths q) s j) (on_guard q k s j a b))

  -- what a step brings from the cell of a boundary
  step_brings :
      (s i : ℕ) → s ≤ k → i < q.size → (e : Move) (grow : Path → Path) → ((p : Path) → route (grow p) ≡ step (route p) e) →
      carry route (carry grow (rows q (paths q) s i)) ≡ carry (λ r. step r e) (cells q k (on s i))
  step_brings s i a b e grow is =
      carry_carry route grow (rows q (paths q) s i) ∙ ap (λ f. carry f (rows q (paths q) s i)) (fun_ext is) ∙
      sym (carry_carry (λ r. step r e) route (rows q (paths q) s i)) ∙ ap (carry (λ r. step r e)) (sym (cells_on s i a b))

  brought_all : State → Ways State Move → Cell (Route State Move)
  brought_all = gather (best_routes (path_system q k)) (cells q k)

  -- the units into boundary j from the boundaries below m
  units_bring :
      (x : State) (s j m : ℕ) → s < k → m ≤ j → j < q.size →
      carry route (best (paths q).less m (arrival q (paths q) s (rows q (paths q) s) j)) ≡ brought_all x (unit_ways q s j m)
  unfolding best arrival ways_below brought_all gather best_routes carry paths by_value only route
  units_bring x s j zero a l b = refl
  units_bring x s j (suc m) a l b =
      route_keep (best (paths q).less m (arrival q (paths q) s (rows q (paths q) s) j)) (arrival q (paths q) s (rows q (paths q) s) j m) ∙
      ap₂ (keep by_value) (units_bring x s j m a (omega arith) b) refl ∙ go (q.unit_ok m j)
    where
      so_far : Cell (Route State Move)
      so_far = brought_all x (unit_ways q s j m)

      go :
          (t : Bool) →
          keep by_value so_far (carry route (only t (carry (λ p. unit p j) (rows q (paths q) s m)))) ≡
          brought_all x (cond t (unit_ways q s j m then after (on s m) (by_unit j)) (unit_ways q s j m))
      go true = ap (keep by_value so_far) (step_brings s m (omega arith) (omega arith) (by_unit j) (λ p. unit p j) (λ p. refl))
      go false = keep_empty by_value so_far

  -- a row's cell joins the ways into it
  row_brings :
      (s j : ℕ) → s ≤ k → j < q.size → carry route (rows q (paths q) s j) ≡ brought_all (on s j) (ways_in q s j)
  unfolding rows sweep best paths ways_in brought_all gather best_routes bring carry keep route by_value
  row_brings zero zero a b = refl
  row_brings zero (suc j) a b =
      route_keep (held (begin (suc j))) (carry gap (rows q (paths q) zero j)) ∙
      ap (keep by_value (held (start (on zero (suc j))))) (step_brings zero j a (omega arith) by_gap gap (λ p. refl))
  row_brings (suc s) zero a b = refl
  row_brings (suc s) (suc j) a b =
      route_keep (best (paths q).less (suc j) (arrival q (paths q) s (rows q (paths q) s) (suc j)))
      (carry gap (rows q (paths q) (suc s) j)) ∙
      ap₂ (keep by_value) (units_bring (on (suc s) (suc j)) s (suc j) (suc j) a (omega arith) b)
      (step_brings (suc s) j a (omega arith) by_gap gap (λ p. refl))

  -- the ends at the boundaries below m
  ends_bring :
      (s m : ℕ) → s ≤ k → m ≤ q.size →
      carry (λ p. step (route p) stop) (best (λ p r. lt (sum q p) (sum q r)) m (rows q (paths q) s)) ≡ brought_all (done s) (stop_ways s m)
  unfolding best ways_below brought_all gather best_routes bring carry by_value
  ends_bring s zero a b = refl
  ends_bring s (suc m) a b =
      carry_keep (λ p r. lt (sum q p) (sum q r)) by_value (λ p. step (route p) stop)
      (λ p r. sym (ap₂ lt (ended_value q k p) (ended_value q k r)))
      (best (λ p r. lt (sum q p) (sum q r)) m (rows q (paths q) s)) (rows q (paths q) s m) ∙
      ap₂ (keep by_value) (ends_bring s m a (omega arith))
      (sym (carry_carry (λ r. step r stop) route (rows q (paths q) s m)) ∙ ap (carry (λ r. step r stop)) (sym (cells_on s m a b)))

  -- behind a guard there is something to bring only where it passes
  guarded :
      (t : Bool) (x : State) (grow : Path → Route State Move) (c : Cell Path) (ws : Ways State Move) →
      (T t → carry grow c ≡ brought_all x ws) → carry grow (only t c) ≡ brought_all x (cond t ws none)
  unfolding brought_all gather best_routes carry only
  guarded true x grow c ws is = is tt
  guarded false x grow c ws is = refl

  pub rows_table : Table (path_system q k) (best_routes (path_system q k)) (cells q k)
  unfolding Table cells ways_of chosen_path brought_all best_routes gather carry only
  rows_table (on s j) =
      guarded (leb s k && ltb j q.size) (on s j) route (rows q (paths q) s j) (ways_in q s j)
      (λ t. row_brings s j (leb→le s k (and_l (leb s k) (ltb j q.size) t)) (ltb→lt j q.size (and_r (leb s k) (ltb j q.size) t)))
  rows_table (done s) =
      guarded (leb s k) (done s) (λ p. step (route p) stop) (chosen_path q s) (stop_ways s q.size)
      (λ t. ends_bring s q.size (leb→le s k t) (omega arith))

  -- and so are the table that is computed
  pub rows_are_table : (x : State) → cells q k x ≡ table_of (path_system q k) (layered q k) (best_routes (path_system q k)) x
  rows_are_table =
      only_table (path_system q k) (layered q k) (best_routes (path_system q k)) (cells q k) rows_table
      (table_of (path_system q k) (layered q k) (best_routes (path_system q k)))
      (table_is (path_system q k) (layered q k) (best_routes (path_system q k)))
