-- The path problem is a layered system: the ways into each of its states are exactly those that paths come by, each once.
use Prim.Native.Nat.{ℕ, zero, suc, ◌≤◌, ◌<◌, zero-le}
use native.Mathlib.Omega.{arith}
use mathlib.Core.Path.{◌≡◌, refl, sym, subst}
use mathlib.Core.Bool.{Bool, true, false, cond, ◌&&◌}
use lib.Dec.{T, leb, ltb, leb→le, le→leb, ltb→lt, lt→ltb}
use lib.Ieee.Fits.{and_i, and_l, and_r}
use Rattle.paths.specs.Problem.{Problem}
use Rattle.paths.specs.Theory.System.{Way, Ways, none, ◌then◌, fresh, after, In, last, earlier, Once, once_none, once_then, Layered}
use Rattle.paths.specs.Theory.PathSystem.{State, on, done, Move, by_gap, by_unit, stop, opens, allows, leads, stop_ways, ways_in, ways_of, path_system}
use Rattle.paths.proofs.WaysBelow.{Below, below, ways_below_law, in_below, below_once}

-- the ways into each state, as a rule
pub data Arrives (q : Problem) (k : ℕ) : State → Way State Move → Type 0 where
  by_start : {j : ℕ} → j < q.size → Arrives q k (on zero j) fresh
  by_gap_law : {s j : ℕ} → s ≤ k → suc j < q.size → Arrives q k (on s (suc j)) (after (on s j) by_gap)
  by_unit_law : {s i j : ℕ} → s < k → i < j → j < q.size → T (q.unit_ok i j) → Arrives q k (on (suc s) j) (after (on s i) (by_unit j))
  by_stop : {s j : ℕ} → s ≤ k → j < q.size → Arrives q k (done s) (after (on s j) stop)

same_origin : {s i j : ℕ} {e : Move} → after (on s i) e ≡ after (on s j) e → i ≡ j
same_origin h = cc

-- what stands behind a guard
guarded : {P : Type 0} {w : Way State Move} (b : Bool) (ws : Ways State Move) → (T b → In w ws → P) → In w (cond b ws none) → P
guarded true ws f i = f tt i
guarded false ws f i = elim i [ ]

unguarded : {w : Way State Move} (b : Bool) (ws : Ways State Move) → T b → In w ws → In w (cond b ws none)
unguarded true ws t i = i
unguarded false ws t i = absurd t

guarded_once : (b : Bool) (ws : Ways State Move) → Once ws → Once (cond b ws none)
guarded_once true ws once = once
guarded_once false ws once = once_none

module _ (q : Problem) (k : ℕ) where
  arrives_on : (s j : ℕ) {w : Way State Move} → s ≤ k → j < q.size → In w (ways_in q s j) → Arrives q k (on s j) w
  unfolding ways_in
  arrives_on zero zero a b (last e) = subst (Arrives q k (on zero zero)) (sym e) (by_start b)
  arrives_on zero zero a b (earlier i) = elim i [ ]
  arrives_on zero (suc j) a b (last e) = subst (Arrives q k (on zero (suc j))) (sym e) (by_gap_law a b)
  arrives_on zero (suc j) a b (earlier (last e)) = subst (Arrives q k (on zero (suc j))) (sym e) (by_start b)
  arrives_on zero (suc j) a b (earlier (earlier i)) = elim i [ ]
  arrives_on (suc s) zero a b i = elim i [ ]
  arrives_on (suc s) (suc j) a b (last e) = subst (Arrives q k (on (suc s) (suc j))) (sym e) (by_gap_law a b)
  arrives_on (suc s) (suc j) a b (earlier i) = go (ways_below_law _ _ (suc j) i)
    where
      go : {w : Way State Move} → Below (λ i. q.unit_ok i (suc j)) (λ i. after (on s i) (by_unit (suc j))) (suc j) w
          → Arrives q k (on (suc s) (suc j)) w
      go (below l ok) = by_unit_law a l b ok

  pub arrives : (x : State) {w : Way State Move} → In w (ways_of q k x) → Arrives q k x w
  unfolding ways_of
  arrives (on s j) =
      guarded (leb s k && ltb j q.size) (ways_in q s j)
      (λ t. arrives_on s j (leb→le s k (and_l (leb s k) (ltb j q.size) t)) (ltb→lt j q.size (and_r (leb s k) (ltb j q.size) t)))
  arrives (done s) {w} = guarded (leb s k) (stop_ways s q.size) (λ t i. go (leb→le s k t) (ways_below_law _ _ q.size i))
    where
      go : {w : Way State Move} → s ≤ k → Below (λ i. true) (λ i. after (on s i) stop) q.size w → Arrives q k (done s) w
      go h (below l t) = by_stop h l

  pub on_guard : (s j : ℕ) → s ≤ k → j < q.size → T (leb s k && ltb j q.size)
  on_guard s j a b = and_i (leb s k) (ltb j q.size) (le→leb s k a) (lt→ltb j q.size b)

  gap_last : (s j : ℕ) → In (after (on s j) by_gap) (ways_in q s (suc j))
  unfolding ways_in
  gap_last zero j = last refl
  gap_last (suc s) j = last refl

  unit_earlier : (s i j : ℕ) → i < j → T (q.unit_ok i j) → In (after (on s i) (by_unit j)) (ways_in q (suc s) j)
  unfolding ways_in
  unit_earlier s i zero l ok = absurd (omega arith)
  unit_earlier s i (suc j) l ok = earlier (in_below _ _ (suc j) i l ok)

  start_first : (j : ℕ) → In fresh (ways_in q zero j)
  unfolding ways_in
  start_first zero = last refl
  start_first (suc j) = earlier (last refl)

  pub arrives_in : {x : State} {w : Way State Move} → Arrives q k x w → In w (ways_of q k x)
  unfolding ways_of
  arrives_in (by_start {j = j} l) = unguarded (leb zero k && ltb j q.size) _ (on_guard zero j zero-le l) (start_first j)
  arrives_in (by_gap_law {s = s} {j = j} a l) = unguarded (leb s k && ltb (suc j) q.size) _ (on_guard s (suc j) a l) (gap_last s j)
  arrives_in (by_unit_law {s = s} {i = i} {j = j} a l b ok) =
      unguarded (leb (suc s) k && ltb j q.size) _ (on_guard (suc s) j a b) (unit_earlier s i j l ok)
  arrives_in (by_stop {s = s} {j = j} a l) = unguarded (leb s k) _ (le→leb s k a) (in_below _ _ q.size j l tt)

  ways_once : (x : State) → Once (ways_of q k x)
  unfolding ways_of ways_in
  ways_once (on s j) = guarded_once (leb s k && ltb j q.size) _ (go s j)
    where
      only_start : Once {X = State} {E = Move} (none then fresh)
      only_start = once_then {u = fresh} once_none (λ i. elim i [ ])

      apart : (w : Way State Move) → In w (none then fresh) → w ≡ fresh
      apart w (last e) = e
      apart w (earlier i) = elim i [ ]

      not_unit : {s j : ℕ} {y : State} {w : Way State Move} → Below (λ i. q.unit_ok i j) (λ i. after (on s i) (by_unit j)) j w
          → w ≡ after y by_gap → ⊥
      not_unit (below l ok) e = let z : ◌≡◌ {A = ℕ} 0 1 = cc in omega arith

      go : (s j : ℕ) → Once (ways_in q s j)
      go zero zero = only_start
      go zero (suc j) =
          once_then {u = after (on zero j) by_gap} only_start
          (λ i. let f = apart (after (on zero j) by_gap) i in let z : ◌≡◌ {A = ℕ} 0 1 = cc in omega arith)
      go (suc s) zero = once_none
      go (suc s) (suc j) = once_then (below_once _ _ (λ i l. same_origin) (suc j)) (λ i. not_unit (ways_below_law _ _ (suc j) i) refl)
  ways_once (done s) = guarded_once (leb s k) _ (below_once _ _ (λ i l. same_origin) q.size)

  rank : State → ℕ
  rank (on s j) = j
  rank (done s) = q.size

  pub layered : Layered (path_system q k)
  unfolding rank
  layered = record {
    rank = rank;
    falls = λ x y e i. falls (arrives x i);
    opened = λ x i. opened (arrives x i);
    opens_in = opens_in;
    allowed = λ x y e i. allowed (arrives x i);
    leads_to = λ x y e i. leads_to (arrives x i);
    allows_in = allows_in;
    each_once = ways_once;
  }
    where
      falls : {x y : State} {e : Move} → Arrives q k x (after y e) → rank y < rank x
      falls (by_gap_law a l) = omega arith
      falls (by_unit_law a l b ok) = l
      falls (by_stop a l) = l

      opened : {x : State} → Arrives q k x fresh → opens q x
      opened (by_start l) = l

      opens_in : (x : State) → opens q x → In fresh (ways_of q k x)
      opens_in (on (suc _) j) o = elim o [ ]
      opens_in (done _) o = elim o [ ]
      opens_in (on zero j) o = arrives_in (by_start o)

      allowed : {x y : State} {e : Move} → Arrives q k x (after y e) → allows q k y e
      allowed (by_gap_law a l) = (a, l)
      allowed (by_unit_law a l b ok) = (a, l, b, ok)
      allowed (by_stop a l) = (a, l)

      leads_to : {x y : State} {e : Move} → Arrives q k x (after y e) → leads y e ≡ x
      leads_to (by_gap_law a l) = refl
      leads_to (by_unit_law a l b ok) = refl
      leads_to (by_stop a l) = refl

      allows_in : (y : State) (e : Move) → allows q k y e → In (after y e) (ways_of q k (leads y e))
      allows_in (done _) e h = elim h [ ]
      allows_in (on s i) by_gap h = arrives_in (by_gap_law h.0 h.1)
      allows_in (on s i) (by_unit j) h = arrives_in (by_unit_law h.0 h.1 h.2 h.3)
      allows_in (on s i) stop h = arrives_in (by_stop h.0 h.1)
