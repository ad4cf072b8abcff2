-- The path problem as a layered system: paths of up to k units, whose end is one more step.
use Rattle.std.specs.Prelude.{ℕ, zero, suc, ◌≤◌, ◌<◌, Bool, true, cond, ◌&&◌, T, leb, ltb, Float}
use Rattle.std.specs.Float.{binary64}
use Rattle.std.specs.Float.Ieee.{add, sub, lt, of_bits}
use Rattle.paths.specs.Problem.{Problem}
use Rattle.paths.specs.Path.{Path, begin, gap, unit}
use Rattle.paths.specs.Theory.System.{System, Route, start, step, Way, Ways, none, ◌then◌, fresh, after}

-- A cell (units so far, boundary), and for each count of units its end.
pub data State : Type 0 where
  on : ℕ → ℕ → State
  done : ℕ → State

-- A gap, a unit to a boundary, and the end.
pub data Move : Type 0 where
  by_gap : Move
  by_unit : ℕ → Move
  stop : Move

-- A path begins with no unit, at any boundary.
abbrev pub opens : Problem → State → Type 0
opens q (on zero j) = j < q.size
opens q (on (suc s) j) = ⊥
opens q (done s) = ⊥

-- No path begins at its end, so that value is never used.
abbrev pub first : Problem → State → Float
first q (on s j) = q.start j
first q (done s) = of_bits binary64 0

-- The steps of `Admitted`, for paths of up to k units; nothing follows the end.
abbrev pub allows : Problem → ℕ → State → Move → Type 0
allows q k (on s i) by_gap = (s ≤ k) × (suc i < q.size)
allows q k (on s i) (by_unit j) = (s < k) × (i < j) × (j < q.size) × T (q.unit_ok i j)
allows q k (on s i) stop = (s ≤ k) × (i < q.size)
allows q k (done s) move = ⊥

abbrev pub leads : State → Move → State
leads (on s i) by_gap = on s (suc i)
leads (on s i) (by_unit j) = on (suc s) j
leads (on s i) stop = done s
leads (done s) move = done s

-- what `value` and `sum` do at each step
abbrev pub next : Problem → State → Move → Float → Float
next q (on s i) by_gap v = sub binary64 v (q.gap_cost i)
next q (on s i) (by_unit j) v = add binary64 v (q.unit_value s i j)
next q (on s i) stop v = sub binary64 v (q.stop_cost i)
next q (done s) move v = v

-- The ways from the boundaries below m that pass a test, lowest first.
unfoldable pub ways_below : (ℕ → Bool) → (ℕ → Way State Move) → ℕ → Ways State Move
ways_below ok way zero = none
ways_below ok way (suc m) = cond (ok m) (ways_below ok way m then way m) (ways_below ok way m)

-- Units into boundary j, and the ends.
abbrev pub unit_ways : Problem → ℕ → ℕ → ℕ → Ways State Move
unit_ways q s j m = ways_below (λ i. q.unit_ok i j) (λ i. after (on s i) (by_unit j)) m

abbrev pub stop_ways : ℕ → ℕ → Ways State Move
stop_ways s m = ways_below (λ i. true) (λ i. after (on s i) stop) m

-- "Start comes first, then units from the lowest origin up, then the gap."
unfoldable pub ways_in : Problem → ℕ → ℕ → Ways State Move
ways_in q zero zero = none then fresh
ways_in q zero (suc j) = none then fresh then after (on zero j) by_gap
ways_in q (suc s) zero = none
ways_in q (suc s) (suc j) = unit_ways q s (suc j) (suc j) then after (on (suc s) j) by_gap

-- only boundaries of the problem, and counts of up to k units
unfoldable pub ways_of : Problem → ℕ → State → Ways State Move
ways_of q k (on s j) = cond (leb s k && ltb j q.size) (ways_in q s j) none
ways_of q k (done s) = cond (leb s k) (stop_ways s q.size) none

abbrev pub path_system : Problem → ℕ → System State Move Float
path_system q k = record {
  opens = opens q;
  first = first q;
  allows = allows q k;
  leads = leads;
  next = next q;
  less = lt;
  ways = ways_of q k;
}

-- a path as a route
unfoldable pub route : Path → Route State Move
route (begin j) = start (on zero j)
route (gap p) = step (route p) by_gap
route (unit p j) = step (route p) (by_unit j)
