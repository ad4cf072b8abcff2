-- The table of values and last ways is that of the best routes, and its notes lead back to exactly those routes.
use Prim.Native.Nat.{ℕ}
use native.Mathlib.Omega.{arith}
use mathlib.Core.Path.{◌≡◌, refl, sym, ap, ap₂, fun_ext, subst, ◌∙◌}
use Rattle.paths.specs.Cell.{Cell, empty, held, carry}
use Rattle.paths.specs.Theory.System.{System, Route, start, step, fresh, after, state_of, value_of, last_way, Layered}
use Rattle.paths.specs.Theory.Table.{Table, best_routes, Noted, best_notes}
use Rattle.paths.proofs.Cells.{Every, every_empty, every_held, every_at, every_keep, every_carry, carry_keep}
use Rattle.paths.proofs.Tables.{Invariant, everywhere, only_table, Respects, image}
use Rattle.paths.proofs.BestRoutes.{best_ends}

-- what is noted of a route
abbrev pub noted : {X E W : Type 0} → System X E W → Route X E → Noted X E W
noted S r = record { value = value_of S r; way = last_way S r }

-- Following the notes from a state back to where a route begins.
pub data Follows {X E W : Type 0} (notes : X → Cell (Noted X E W)) : X → Route X E → Type 0 where
  begun : {x : X} {a : Noted X E W} → notes x ≡ held a → a.way ≡ fresh → Follows notes x (start x)
  came :
      {x y : X} {e : E} {r : Route X E} {a : Noted X E W} → notes x ≡ held a → a.way ≡ after y e → Follows notes y r →
      Follows notes x (step r e)

-- a route that the table holds was made from what it holds before
data Prefixed {X E W : Type 0} (S : System X E W) (t : X → Cell (Route X E)) : Route X E → Type 0 where
  no_prefix : {x : X} → Prefixed S t (start x)
  prefix : {r : Route X E} {e : E} → t (state_of S r) ≡ held r → Prefixed S t (step r e)

module _ {X E W : Type 0} (S : System X E W) (layered : Layered S) (t : X → Cell (Route X E)) (is : Table S (best_routes S) t) where
  -- what is noted of the best routes is the table of notes
  pub notes_table : Table S (best_notes S) (λ x. carry (noted S) (t x))
  unfolding best_routes best_notes carry value_of last_way
  notes_table = image S (best_routes S) (best_notes S) t (carry (noted S)) respects is
    where
      stepped :
          (y : X) (e : E) (c : Cell (Route X E)) → ((r : Route X E) → c ≡ held r → state_of S r ≡ y) →
          carry (noted S) (carry (λ r. step r e) c) ≡
          carry (λ a. record { value = S.next y e a.value; way = after y e }) (carry (noted S) c)
      stepped y e empty at = refl
      stepped y e (held r) at = ap (λ z. held (record { value = S.next z e (value_of S r); way = after z e })) (at r refl)

      respects : Respects S (best_routes S) (best_notes S) t (carry (noted S))
      respects = record {
        nothing = refl;
        join = carry_keep _ _ (noted S) (λ r u. refl);
        begins = λ x. refl;
        along = λ y e. stepped y e (t y) (λ r h. (best_ends S layered t is y r h).ends);
      }

  -- so any table of notes has the value and the last way of each best route
  pub notes_same : (notes : X → Cell (Noted X E W)) → Table S (best_notes S) notes → (x : X) → notes x ≡ carry (noted S) (t x)
  notes_same notes are x = sym (only_table S layered (best_notes S) (λ x. carry (noted S) (t x)) notes_table notes are x)

  prefixed : (x : X) → Every (Prefixed S t) (t x)
  unfolding best_routes carry
  prefixed = everywhere S layered (best_routes S) t is (λ x. Every (Prefixed S t)) invariant
    where
      invariant : Invariant S (best_routes S) t (λ x. Every (Prefixed S t))
      invariant = record {
        nothing = λ x. every_empty;
        join = λ x c d. every_keep _;
        begins = λ x o. every_held no_prefix;
        along = λ y e allow. every_carry (λ r. step r e) (t y) (λ r at p. prefix (ap t (best_ends S layered t is y r at).ends ∙ at));
      }

  -- the notes of any table of them lead back to the best route
  pub notes_follow :
      (notes : X → Cell (Noted X E W)) → Table S (best_notes S) notes → (x : X) (r : Route X E) → t x ≡ held r → Follows notes x r
  unfolding carry state_of last_way
  notes_follow notes are x r e =
      subst (λ n. Follows n x r) (sym (fun_ext (notes_same notes are)))
      (subst (λ z. Follows (λ x. carry (noted S) (t x)) z r) ends (go r (every_at (prefixed x) e) (ap t ends ∙ e)))
    where
      ends : state_of S r ≡ x
      ends = (best_ends S layered t is x r e).ends

      go : (r : Route X E) → Prefixed S t r → t (state_of S r) ≡ held r → Follows (λ x. carry (noted S) (t x)) (state_of S r) r
      go (start x) no_prefix at = begun (ap (carry (noted S)) at) refl
      go (step r e) (prefix h) at = came (ap (carry (noted S)) at) refl (go r (every_at (prefixed (state_of S r)) h) h)

-- and to no other
pub follows_same :
    {X E W : Type 0} {notes : X → Cell (Noted X E W)} {x : X} {r u : Route X E} → Follows notes x r → Follows notes x u → r ≡ u
follows_same (begun a w) (begun b v) = refl
follows_same (begun {a = n} a w) (came {a = m} b v g) = absurd (let same : n ≡ m = cc in let z : ◌≡◌ {A = ℕ} 0 1 = cc in omega arith)
follows_same (came {a = n} a w f) (begun {a = m} b v) = absurd (let same : n ≡ m = cc in let z : ◌≡◌ {A = ℕ} 0 1 = cc in omega arith)
follows_same {notes = notes} (came {y = y} {e = e} {r = r} {a = n} a w f) (came {y = y'} {e = e'} {r = r'} {a = m} b v g) =
    let same : n ≡ m = cc in
    let origin : y ≡ y' = cc in
    let move : e ≡ e' = cc in
    ap₂ step (follows_same f (subst (λ z. Follows notes z r') (sym origin) g)) move
