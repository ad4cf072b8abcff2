-- A layered system: states, steps between them, and what a step does to a value. The search for paths is one; what is proved of
-- any system holds of every such search.
use Rattle.std.specs.Prelude.{ℕ, ◌<◌, ◌≡◌, Bool}

-- A state where a route begins, then steps. It grows at its end, as a path does.
pub data Route (X E : Type 0) : Type 0 where
  start : X → Route X E
  step : Route X E → E → Route X E

-- A way into a state: a route begins there, or it comes by a step from another state.
pub data Way (X E : Type 0) : Type 0 where
  fresh : Way X E
  after : X → E → Way X E

-- Ways in their order, the last one outermost.
infixl 50 ◌then◌
pub data Ways (X E : Type 0) : Type 0 where
  none : Ways X E
  ◌then◌ : Ways X E → Way X E → Ways X E

pub data In {X E : Type 0} (w : Way X E) : Ways X E → Type 0 where
  last : {ws : Ways X E} {u : Way X E} → w ≡ u → In w (ws then u)
  earlier : {ws : Ways X E} {u : Way X E} → In w ws → In w (ws then u)

-- no way stands twice
pub data Once {X E : Type 0} : Ways X E → Type 0 where
  once_none : Once none
  once_then : {ws : Ways X E} {u : Way X E} → Once ws → (In u ws → ⊥) → Once (ws then u)

-- Where a route may begin, and with which value; which steps a state allows, where they lead, and what they make of a value; how two
-- values compare, strictly; the ordered ways into a state.
pub record System (X E W : Type 0) : Type 1 where
  pub opens : X → Type 0
  pub first : X → W
  pub allows : X → E → Type 0
  pub leads : X → E → X
  pub next : X → E → W → W
  pub less : W → W → Bool
  pub ways : X → Ways X E

-- the state where a route stands
unfoldable pub state_of : {X E W : Type 0} → System X E W → Route X E → X
state_of S (start x) = x
state_of S (step r e) = S.leads (state_of S r) e

-- the first value with each step applied, in the order of the route
unfoldable pub value_of : {X E W : Type 0} → System X E W → Route X E → W
unfolding state_of
value_of S (start x) = S.first x
value_of S (step r e) = S.next (state_of S r) e (value_of S r)

-- the way by which a route came to its state
unfoldable pub last_way : {X E W : Type 0} → System X E W → Route X E → Way X E
unfolding state_of
last_way S (start x) = fresh
last_way S (step r e) = after (state_of S r) e

-- The routes of a system: they begin where one may, and take steps that are allowed.
pub data Runs {X E W : Type 0} (S : System X E W) : Route X E → Type 0 where
  opening : {x : X} → S.opens x → Runs S (start x)
  going : {r : Route X E} {e : E} → Runs S r → S.allows (state_of S r) e → Runs S (step r e)

-- a route of the system that ends at x
pub record Ends {X E W : Type 0} (S : System X E W) (x : X) (r : Route X E) : Type 0 where
  pub runs : Runs S r
  pub ends : state_of S r ≡ x

-- The ways into each state are exactly the ways that routes come by, each once, and a rank falls along them.
pub record Layered {X E W : Type 0} (S : System X E W) : Type 0 where
  pub rank : X → ℕ
  pub falls : (x y : X) (e : E) → In (after y e) (S.ways x) → rank y < rank x
  pub opened : (x : X) → In fresh (S.ways x) → S.opens x
  pub opens_in : (x : X) → S.opens x → In fresh (S.ways x)
  pub allowed : (x y : X) (e : E) → In (after y e) (S.ways x) → S.allows y e
  pub leads_to : (x y : X) (e : E) → In (after y e) (S.ways x) → S.leads y e ≡ x
  pub allows_in : (y : X) (e : E) → S.allows y e → In (after y e) (S.ways (S.leads y e))
  pub each_once : (x : X) → Once (S.ways x)
