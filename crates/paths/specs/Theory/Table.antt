-- Tables over a layered system: each state's cell joins what the ways into the state bring, in their order. A kind of table says what
-- a cell is; four kinds are given here. No contract of the base rests on this file. The best routes serve the proof that the cell rule
-- keeps a best path; the others wait for document 02: all routes and their number (`all_routes`, `At`, `route_count`, with `Once` and
-- `each_once` of System.antt) for Ask 10, every path by number, and the notes (`best_notes`, with `last_way`) for Ask 12, whose search has
-- a larger table.
use Rattle.std.specs.Prelude.{ℕ, zero, suc, ◌+◌, ◌≡◌, List, [], ◌∷◌, ◌++◌, map}
use Rattle.paths.specs.Cell.{Cell, empty, held, keep, carry}
use Rattle.paths.specs.Theory.System.{System, Route, start, step, Way, fresh, after, Ways, none, ◌then◌, value_of, Layered}

-- A cell before any way, what a later way does to it, what a route that begins at a state brings, and what is brought by a step from
-- a state with its cell.
pub record Kind (X E C : Type 0) : Type 0 where
  pub nothing : C
  pub join : C → C → C
  pub begins : X → C
  pub along : X → E → C → C

-- what one way brings into state x, where t has the cells
unfoldable pub bring : {X E C : Type 0} → Kind X E C → (X → C) → X → Way X E → C
bring kind t x fresh = kind.begins x
bring kind t x (after y e) = kind.along y e (t y)

-- what ways bring, joined in their order
unfoldable pub gather : {X E C : Type 0} → Kind X E C → (X → C) → X → Ways X E → C
unfolding bring
gather kind t x none = kind.nothing
gather kind t x (ws then w) = kind.join (gather kind t x ws) (bring kind t x w)

-- t is a table: each cell joins what the ways into its state bring.
unfoldable pub Table : {X E W C : Type 0} → System X E W → Kind X E C → (X → C) → Type 0
unfolding gather
Table {X = X} S kind t = (x : X) → t x ≡ gather kind t x (S.ways x)

-- The table of a layered system, computed: the rank bounds how far back the ways go.
unfoldable pub table_to : {X E W C : Type 0} → System X E W → Kind X E C → ℕ → X → C
unfolding gather
table_to S kind zero x = kind.nothing
table_to S kind (suc n) x = gather kind (table_to S kind n) x (S.ways x)

unfoldable pub table_of : {X E W C : Type 0} (S : System X E W) → Layered S → Kind X E C → X → C
unfolding table_to
table_of S layered kind x = table_to S kind (suc (layered.rank x)) x

-- The best route: a later way replaces only when its value is strictly greater.
unfoldable pub best_routes : {X E W : Type 0} → System X E W → Kind X E (Cell (Route X E))
unfolding keep carry value_of
best_routes S = record {
  nothing = empty;
  join = keep (λ r u. S.less (value_of S r) (value_of S u));
  begins = λ x. held (start x);
  along = λ y e. carry (λ r. step r e);
}

-- The best route's value and last way.
pub record Noted (X E W : Type 0) : Type 0 where
  pub value : W
  pub way : Way X E

unfoldable pub best_notes : {X E W : Type 0} → System X E W → Kind X E (Cell (Noted X E W))
unfolding keep carry
best_notes S = record {
  nothing = empty;
  join = keep (λ a b. S.less a.value b.value);
  begins = λ x. held (record { value = S.first x; way = fresh });
  along = λ y e. carry (λ a. record { value = S.next y e a.value; way = after y e });
}

-- All routes, in the order of the ways.
unfoldable pub all_routes : {X E : Type 0} → Kind X E (List (Route X E))
all_routes = record { nothing = []; join = ◌++◌; begins = λ x. start x ∷ []; along = λ y e. map (λ r. step r e) }

-- a place in a list, counted from 0
pub data At {A : Type 0} (a : A) : List A → ℕ → Type 0 where
  at_first : {b : A} {rest : List A} → a ≡ b → At a (b ∷ rest) zero
  at_next : {b : A} {rest : List A} {n : ℕ} → At a rest n → At a (b ∷ rest) (suc n)

-- How many routes there are.
unfoldable pub route_count : {X E : Type 0} → Kind X E ℕ
route_count = record { nothing = 0; join = ◌+◌; begins = λ x. 1; along = λ y e n. n }
