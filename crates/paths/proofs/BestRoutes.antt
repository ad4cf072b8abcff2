-- The table of best routes: what it holds is a route that ends there, no route there has a larger value, and where a cell is empty no route
-- ends.
use mathlib.Core.Path.{◌≡◌, sym, subst}
use mathlib.Core.Bool.{not}
use lib.Dec.{T}
use Rattle.paths.specs.Cell.{Cell, empty, held, carry}
use Rattle.paths.specs.Theory.System.{System, Route, start, step, Runs, opening, going, Ends, state_of, value_of, Layered}
use Rattle.paths.specs.Theory.Table.{Table, best_routes}
use Rattle.paths.proofs.Cells.{Every, every_empty, every_held, every_at, Some, some_held, some_at, some_filled, every_keep, every_carry, some_keep, some_keep_later}
use Rattle.paths.proofs.Tables.{start_ends, step_ends, Invariant, Reaching, everywhere, reached}

-- `R u v`, v is at least as large as u, is an order of the values that are Ok, comparison decides it, and the steps respect it.
pub record Ordered {X E W : Type 0} (S : System X E W) (Ok : W → Type 0) (R : W → W → Type 0) : Type 0 where
  pub same : (u : W) → Ok u → R u u
  pub through : (u v w : W) → Ok u → Ok v → Ok w → R u v → R v w → R u w
  pub up : (u v : W) → Ok u → Ok v → T (S.less u v) → R u v
  pub stay : (u v : W) → Ok u → Ok v → T (not (S.less u v)) → R v u
  pub steps :
      (x : X) (e : E) (u v : W) → S.allows x e → Ok u → Ok v → Ok (S.next x e u) → Ok (S.next x e v) → R u v →
      R (S.next x e u) (S.next x e v)

module _ {X E W : Type 0} (S : System X E W) (layered : Layered S) (t : X → Cell (Route X E)) (is : Table S (best_routes S) t) where
  holds_route : Invariant S (best_routes S) t (λ x. Every (Ends S x))
  unfolding best_routes
  holds_route = record {
    nothing = λ x. every_empty;
    join = λ x c d. every_keep _;
    begins = λ x o. every_held (start_ends S o);
    along = λ y e allow. every_carry (λ r. step r e) (t y) (λ r h. step_ends S e allow);
  }

  -- what a cell holds is a route that ends there
  pub best_ends : (x : X) (r : Route X E) → t x ≡ held r → Ends S x r
  best_ends x r e = every_at (everywhere S layered (best_routes S) t is (λ x. Every (Ends S x)) holds_route x) e

  module _ (Ok : W → Type 0) (R : W → W → Type 0) (ordered : Ordered S Ok R) (all_ok : (r : Route X E) → Runs S r → Ok (value_of S r)) where
    -- b's value is at least that of r
    abbrev AtLeast : Route X E → Route X E → Type 0
    AtLeast r b = R (value_of S r) (value_of S b)

    through : (r a b : Route X E) → Runs S r → Runs S a → Runs S b → AtLeast r a → AtLeast a b → AtLeast r b
    through r a b run to from =
        ordered.through (value_of S r) (value_of S a) (value_of S b) (all_ok r run) (all_ok a to) (all_ok b from)

    stepped :
        (r a : Route X E) (e : E) → Runs S r → S.allows (state_of S r) e → Ends S (state_of S r) a → AtLeast r a
        → AtLeast (step r e) (step a e)
    unfolding value_of
    stepped r a e run allow at le =
        let ok = all_ok (step a e) (step_ends S e allow at).runs in
        subst (λ z. R (S.next (state_of S r) e (value_of S r)) (S.next z e (value_of S a))) (sym at.ends)
        (ordered.steps (state_of S r) e (value_of S r) (value_of S a) allow (all_ok r run) (all_ok a at.runs)
        (all_ok (step r e) (going run allow)) (subst (λ z. Ok (S.next z e (value_of S a))) at.ends ok) le)

    covering : Reaching S (best_routes S) t (λ x. Every (Ends S x)) (λ r. Some (AtLeast r))
    unfolding best_routes
    covering = record {
      earlier = λ r run x c d.
          some_keep _ (λ a b at bt less le. through r a b run at.runs bt.runs le
          (ordered.up (value_of S a) (value_of S b) (all_ok a at.runs) (all_ok b bt.runs) less));
      later = λ r run x c d.
          some_keep_later _ (λ a b at bt less le. through r b a run bt.runs at.runs le
          (ordered.stay (value_of S a) (value_of S b) (all_ok a at.runs) (all_ok b bt.runs) less));
      begins = λ x o. some_held (ordered.same (value_of S (start x)) (all_ok (start x) (opening o)));
      along = λ r e run allow. along r e run allow (t (state_of S r));
    }
      where
        along :
            (r : Route X E) (e : E) → Runs S r → S.allows (state_of S r) e → (c : Cell (Route X E)) → Every (Ends S (state_of S r)) c →
            Some (AtLeast r) c → Some (AtLeast (step r e)) (carry (λ b. step b e) c)
        along r e run allow empty _ x3 = elim x3 [ ]
        along r e run allow (held a) (every_held at) (some_held le) = some_held {a = step a e} (stepped r a e run allow at le)

    -- the cell where a route ends holds one that is at least as large
    covered : (x : X) (r : Route X E) → Ends S x r → Some (AtLeast r) (t x)
    covered x r at =
        subst (λ z. Some (AtLeast r) (t z)) at.ends
        (reached S layered (best_routes S) t is (λ x. Every (Ends S x)) holds_route (λ r. Some (AtLeast r)) covering at.runs)

    -- no route that ends there has a larger value
    pub best_largest : (x : X) (b r : Route X E) → t x ≡ held b → Ends S x r → R (value_of S r) (value_of S b)
    best_largest x b r e at = some_at (covered x r at) e

  -- Where a cell is empty no route ends: what covers a route is there, by an order in which all values are equal.
  pub empty_none : (x : X) → t x ≡ empty → (r : Route X E) → Ends S x r → ⊥
  empty_none x e r at = some_filled (covered (λ u. Unit {0}) (λ u v. Unit {0}) level (λ r run. tt) x r at) e
    where
      level : Ordered S (λ u. Unit {0}) (λ u v. Unit {0})
      level = record {
        same = λ u a. tt;
        through = λ u v w a b c h k. tt;
        up = λ u v a b l. tt;
        stay = λ u v a b l. tt;
        steps = λ x e u v al a b c d h. tt;
      }
