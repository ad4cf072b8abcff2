-- Paths are the routes of their system: same end, count, value and admission, and a route that has come to an end has a path's sum.
use Prim.Native.Nat.{suc}
use Prim.Native.Nat.{ℕ, zero, ◌≤◌, ◌<◌, zero-le}
use native.Mathlib.Omega.{arith}
use mathlib.Core.Path.{◌≡◌, refl, sym, ap, ap₂, subst}
use Rattle.paths.specs.Problem.{Problem}
use Rattle.paths.specs.Path.{Path, begin, gap, unit, end, count, value, sum, Admitted, begins, gaps, units}
use Rattle.paths.specs.Theory.System.{Route, start, step, Runs, opening, going, state_of, value_of}
use Rattle.paths.specs.Theory.PathSystem.{State, on, done, Move, by_gap, by_unit, stop, opens, allows, leads, next, path_system, route}

-- where an admitted path stands
pub end_inside : {q : Problem} {p : Path} → Admitted q p → end p < q.size
unfolding end
end_inside (begins l) = l
end_inside (gaps a l) = l
end_inside (units a l b ok) = b

module _ (q : Problem) (k : ℕ) where
  pub route_state : (p : Path) → state_of (path_system q k) (route p) ≡ on (count p) (end p)
  unfolding route state_of count end
  route_state (begin j) = refl
  route_state (gap p) = ap (λ x. leads x by_gap) (route_state p)
  route_state (unit p j) = ap (λ x. leads x (by_unit j)) (route_state p)

  pub route_value : (p : Path) → value_of (path_system q k) (route p) ≡ value q p
  unfolding route value_of value
  route_value (begin j) = refl
  route_value (gap p) = ap₂ (λ x v. next q x by_gap v) (route_state p) (route_value p)
  route_value (unit p j) = ap₂ (λ x v. next q x (by_unit j) v) (route_state p) (route_value p)

  pub ended_value : (p : Path) → value_of (path_system q k) (step (route p) stop) ≡ sum q p
  unfolding value_of sum
  ended_value p = ap₂ (λ x v. next q x stop v) (route_state p) (route_value p)

  pub ended_state : (p : Path) → state_of (path_system q k) (step (route p) stop) ≡ done (count p)
  unfolding state_of
  ended_state p = ap (λ x. leads x stop) (route_state p)

  allow :
      (p : Path) (e : Move) → allows q k (on (count p) (end p)) e → allows q k (state_of (path_system q k) (route p)) e
  allow p e = subst (λ x. allows q k x e) (sym (route_state p))

  allow_back :
      (p : Path) (e : Move) → allows q k (state_of (path_system q k) (route p)) e → allows q k (on (count p) (end p)) e
  allow_back p e = subst (λ x. allows q k x e) (route_state p)

  pub admitted_runs : {p : Path} → Admitted q p → count p ≤ k → Runs (path_system q k) (route p)
  unfolding route count
  admitted_runs (begins l) h = opening l
  admitted_runs (gaps {p = p} a l) h = going (admitted_runs a h) (allow p by_gap (h, l))
  admitted_runs (units {p = p} {j = j} a l b ok) h = going (admitted_runs a (omega arith)) (allow p (by_unit j) (h, l, b, ok))

  pub admitted_ends : {p : Path} → Admitted q p → count p ≤ k → Runs (path_system q k) (step (route p) stop)
  admitted_ends {p} a h = going (admitted_runs a h) (allow p stop (h, end_inside a))

  -- a route of the system is a path, or one that has come to its end
  pub data Seen : Route State Move → Type 0 where
    seen_path : (p : Path) → Admitted q p → count p ≤ k → Seen (route p)
    seen_end : (p : Path) → Admitted q p → count p ≤ k → Seen (step (route p) stop)

  opened : (x : State) → opens q x → Seen (start x)
  unfolding route count
  opened (on (suc _) j) l = elim l [ ]
  opened (done _) l = elim l [ ]
  opened (on zero j) l = seen_path (begin j) (begins l) zero-le

  moved : {r : Route State Move} (e : Move) → Seen r → allows q k (state_of (path_system q k) r) e → Seen (step r e)
  unfolding route count
  moved by_gap (seen_path p a h) al = let l = allow_back p by_gap al in seen_path (gap p) (gaps a l.1) h
  moved (by_unit j) (seen_path p a h) al = let l = allow_back p (by_unit j) al in seen_path (unit p j) (units a l.1 l.2 l.3) l.0
  moved stop (seen_path p a h) al = seen_end p a h
  moved e (seen_end p a h) al = absurd (subst (λ x. allows q k x e) (ended_state p) al)

  pub seen : {r : Route State Move} → Runs (path_system q k) r → Seen r
  seen (opening {x = x} o) = opened x o
  seen (going {e = e} run al) = moved e (seen run) al

  pub runs_admitted : (p : Path) → Runs (path_system q k) (route p) → Admitted q p
  unfolding route
  runs_admitted (begin j) (opening l) = begins l
  runs_admitted (gap p) (going run al) = let l = allow_back p by_gap al in gaps (runs_admitted p run) l.1
  runs_admitted (unit p j) (going run al) = let l = allow_back p (by_unit j) al in units (runs_admitted p run) l.1 l.2 l.3

  pub ends_admitted : (p : Path) → Runs (path_system q k) (step (route p) stop) → Admitted q p
  ends_admitted p (going run al) = runs_admitted p run
