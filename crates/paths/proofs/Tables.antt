-- What holds of any table of a layered system: two ways to prove something of its cells, that tables exist, that there is one only,
-- and that a table's image under a map that respects its kind is a table.
use Prim.Native.Nat.{ℕ, zero, suc, ◌<◌}
use native.Mathlib.Omega.{arith}
use mathlib.Core.Path.{◌≡◌, refl, sym, ap, ap₂, subst, ◌∙◌}
use Rattle.paths.specs.Theory.System.{System, Route, start, step, Way, fresh, after, Ways, none, ◌then◌, In, last, earlier, Runs, opening, going, Ends, state_of, Layered}
use Rattle.paths.specs.Theory.Table.{Kind, bring, gather, Table, table_to, table_of}

-- how a route comes to end at a state
module _ {X E W : Type 0} (S : System X E W) where
  pub start_ends : {x : X} → S.opens x → Ends S x (start x)
  unfolding state_of
  start_ends o = record { runs = opening o; ends = refl }

  pub step_ends : {y : X} {r : Route X E} (e : E) → S.allows y e → Ends S y r → Ends S (S.leads y e) (step r e)
  unfolding state_of
  step_ends e allow at = record {
    runs = going at.runs (subst (λ z. S.allows z e) (sym at.ends) allow);
    ends = ap (λ z. S.leads z e) at.ends;
  }

-- R is kept up by what a kind of table does, along the steps at least from the cells of t
pub record Invariant {X E W C : Type 0} (S : System X E W) (kind : Kind X E C) (t : X → C) (R : X → C → Type 0) : Type 0 where
  pub nothing : (x : X) → R x kind.nothing
  pub join : (x : X) (c d : C) → R x c → R x d → R x (kind.join c d)
  pub begins : (x : X) → S.opens x → R x (kind.begins x)
  pub along : (y : X) (e : E) → S.allows y e → R y (t y) → R (S.leads y e) (kind.along y e (t y))

-- P of a route passes from what its last way brings to the cell, where R holds of cells
pub record Reaching {X E W C : Type 0}
    (S : System X E W) (kind : Kind X E C) (t : X → C) (R : X → C → Type 0) (P : Route X E → C → Type 0) : Type 0 where
  pub earlier : (r : Route X E) → Runs S r → (x : X) (c d : C) → R x c → R x d → P r c → P r (kind.join c d)
  pub later : (r : Route X E) → Runs S r → (x : X) (c d : C) → R x c → R x d → P r d → P r (kind.join c d)
  pub begins : (x : X) → S.opens x → P (start x) (kind.begins x)
  pub along :
      (r : Route X E) (e : E) → Runs S r → S.allows (state_of S r) e → R (state_of S r) (t (state_of S r)) → P r (t (state_of S r)) →
      P (step r e) (kind.along (state_of S r) e (t (state_of S r)))

module _ {X E C : Type 0} (kind : Kind X E C) (t : X → C) (x : X) where
  gather_every :
      (P : C → Type 0) → P kind.nothing → ((c d : C) → P c → P d → P (kind.join c d)) →
      (ws : Ways X E) → ((w : Way X E) → In w ws → P (bring kind t x w)) → P (gather kind t x ws)
  unfolding gather
  gather_every P nothing join none each = nothing
  gather_every P nothing join (ws then w) each =
      join (gather kind t x ws) (bring kind t x w) (gather_every P nothing join ws (λ u i. each u (earlier i))) (each w (last refl))

  gather_some :
      (R P : C → Type 0) → R kind.nothing → ((c d : C) → R c → R d → R (kind.join c d)) →
      ((c d : C) → R c → R d → P c → P (kind.join c d)) → ((c d : C) → R c → R d → P d → P (kind.join c d)) →
      (ws : Ways X E) → ((w : Way X E) → In w ws → R (bring kind t x w)) →
      (w : Way X E) → In w ws → P (bring kind t x w) → P (gather kind t x ws)
  unfolding gather
  gather_some R P nothing join left right none each w x4 p = elim x4 [ ]
  gather_some R P nothing join left right (ws then u) each w (last e) p =
      right (gather kind t x ws) (bring kind t x u) (gather_every R nothing join ws (λ v i. each v (earlier i))) (each u (last refl))
      (subst (λ v. P (bring kind t x v)) e p)
  gather_some R P nothing join left right (ws then u) each w (earlier i) p =
      left (gather kind t x ws) (bring kind t x u) (gather_every R nothing join ws (λ v k. each v (earlier k))) (each u (last refl))
      (gather_some R P nothing join left right ws (λ v k. each v (earlier k)) w i p)

-- two tables' cells agree where their ways' origins do
gather_same :
    {X E C : Type 0} (kind : Kind X E C) (t u : X → C) (x : X) (ws : Ways X E) →
    ((y : X) (e : E) → In (after y e) ws → t y ≡ u y) → gather kind t x ws ≡ gather kind u x ws
unfolding gather
gather_same kind t u x none same = refl
gather_same kind t u x (ws then fresh) same = ap₂ kind.join (gather_same kind t u x ws (λ y e i. same y e (earlier i))) refl
gather_same kind t u x (ws then (after y e)) same =
    ap₂ kind.join (gather_same kind t u x ws (λ z f i. same z f (earlier i))) (ap (kind.along y e) (same y e (last refl)))

module _ {X E W C : Type 0} (S : System X E W) (layered : Layered S) (kind : Kind X E C) (t : X → C) (is : Table S kind t) where
  module _ (R : X → C → Type 0) (invariant : Invariant S kind t R) where
    brought :
        (x : X) → ((y : X) → layered.rank y < layered.rank x → R y (t y)) → (w : Way X E) → In w (S.ways x) → R x (bring kind t x w)
    unfolding bring
    brought x lower fresh i = invariant.begins x (layered.opened x i)
    brought x lower (after y e) i =
        subst (λ z. R z (kind.along y e (t y))) (layered.leads_to x y e i)
        (invariant.along y e (layered.allowed x y e i) (lower y (layered.falls x y e i)))

    below : (n : ℕ) (x : X) → layered.rank x < n → R x (t x)
    unfolding Table
    below zero x h = absurd (omega arith)
    below (suc n) x h =
        subst (R x) (sym (is x))
        (gather_every kind t x (R x) (invariant.nothing x) (invariant.join x) (S.ways x)
        (brought x (λ y l. below n y (omega arith))))

    -- an invariant holds of every cell
    pub everywhere : (x : X) → R x (t x)
    everywhere x = below (suc (layered.rank x)) x (omega arith)

    module _ (P : Route X E → C → Type 0) (reaching : Reaching S kind t R P) where
      arrive : (r : Route X E) → Runs S r → (x : X) (w : Way X E) → In w (S.ways x) → P r (bring kind t x w) → P r (t x)
      unfolding Table
      arrive r run x w i p =
          subst (P r) (sym (is x))
          (gather_some kind t x (R x) (P r) (invariant.nothing x) (invariant.join x) (reaching.earlier r run x)
          (reaching.later r run x) (S.ways x) (brought x (λ y l. everywhere y)) w i p)

      -- P of a route holds of the cell where it ends
      pub reached : {r : Route X E} → Runs S r → P r (t (state_of S r))
      unfolding state_of bring
      reached (opening {x = x} o) = arrive (start x) (opening o) x fresh (layered.opens_in x o) (reaching.begins x o)
      reached (going {r = r} {e = e} run allow) =
          arrive (step r e) (going run allow) (S.leads (state_of S r) e) (after (state_of S r) e) (layered.allows_in (state_of S r) e allow)
          (reaching.along r e run allow (everywhere (state_of S r)) (reached run))

  -- there is one table only
  pub only_table : (u : X → C) → Table S kind u → (x : X) → t x ≡ u x
  unfolding Table
  only_table u other x = go (suc (layered.rank x)) x (omega arith)
    where
      go : (n : ℕ) (x : X) → layered.rank x < n → t x ≡ u x
      go zero x h = absurd (omega arith)
      go (suc n) x h =
          is x ∙ gather_same kind t u x (S.ways x) (λ y e i. go n y (omega (arith, layered.falls x y e i))) ∙ sym (other x)

-- the table that is computed is one
module _ {X E W C : Type 0} (S : System X E W) (layered : Layered S) (kind : Kind X E C) where
  enough : (n m : ℕ) (x : X) → layered.rank x < n → layered.rank x < m → table_to S kind n x ≡ table_to S kind m x
  unfolding table_to
  enough zero m x h k = absurd (omega arith)
  enough (suc n) zero x h k = absurd (omega arith)
  enough (suc n) (suc m) x h k =
      gather_same kind (table_to S kind n) (table_to S kind m) x (S.ways x)
      (λ y e i. enough n m y (omega (arith, layered.falls x y e i)) (omega (arith, layered.falls x y e i)))

  pub table_is : Table S kind (table_of S layered kind)
  unfolding Table table_of table_to
  table_is x =
      gather_same kind (table_to S kind (layered.rank x)) (table_of S layered kind) x (S.ways x)
      (λ y e i. enough (layered.rank x) (suc (layered.rank y)) y (layered.falls x y e i) (omega arith))

-- a map from one kind of cell to another that respects what the kinds do, along the steps at least at the cells of t
pub record Respects {X E W C D : Type 0} (S : System X E W) (kind : Kind X E C) (other : Kind X E D) (t : X → C) (f : C → D) : Type 0 where
  pub nothing : f kind.nothing ≡ other.nothing
  pub join : (c d : C) → f (kind.join c d) ≡ other.join (f c) (f d)
  pub begins : (x : X) → f (kind.begins x) ≡ other.begins x
  pub along : (y : X) (e : E) → f (kind.along y e (t y)) ≡ other.along y e (f (t y))

pub image :
    {X E W C D : Type 0} (S : System X E W) (kind : Kind X E C) (other : Kind X E D) (t : X → C) (f : C → D) →
    Respects S kind other t f → Table S kind t → Table S other (λ x. f (t x))
unfolding Table
image {X = X} {E = E} S kind other t f respects is x = ap f (is x) ∙ go (S.ways x)
  where
    go : (ws : Ways X E) → f (gather kind t x ws) ≡ gather other (λ y. f (t y)) x ws
    go none = respects.nothing
    go (ws then fresh) = respects.join _ _ ∙ ap₂ other.join (go ws) (respects.begins x)
    go (ws then (after y e)) = respects.join _ _ ∙ ap₂ other.join (go ws) (respects.along y e)
