-- The table of all routes has each route that ends at a state at one place of its list, and nothing else; the table of numbers has
-- the lengths of those lists.
use Prim.Native.Nat.{ℕ, zero, suc, ◌+◌, ◌<◌}
use native.Mathlib.Omega.{arith}
use mathlib.Core.Path.{◌≡◌, refl, sym, ap, subst, ◌∙◌}
use mathlib.Core.List.{List, [], ◌∷◌}
use lib.ListN.{length, length-append, length-map}
use Rattle.paths.specs.Theory.System.{System, Route, start, step, Way, fresh, after, Ways, none, ◌then◌, In, last, earlier, Once, once_then, Ends, last_way, Layered}
use Rattle.paths.specs.Theory.Table.{gather, bring, Table, all_routes, route_count, At, at_first, at_next}
use Rattle.paths.proofs.Tables.{start_ends, step_ends, Invariant, Reaching, everywhere, reached, only_table, image}
use Rattle.paths.proofs.ListPlaces.{Split, in_left, in_right, Image, image_of, at_left, at_right, at_split, at_map, map_at}

-- a route's place, whichever it is
abbrev Listed : {X E : Type 0} → Route X E → List (Route X E) → Type 0
Listed r s = (n : ℕ) × At r s n

module _ {X E W : Type 0} (S : System X E W) (layered : Layered S) (t : X → List (Route X E)) (is : Table S all_routes t) where
  listed_routes : Invariant S all_routes t (λ x s. (r : Route X E) (n : ℕ) → At r s n → Ends S x r)
  unfolding all_routes
  listed_routes = record {
    nothing = λ x r n i. elim i [ ];
    join = λ x s u left right r n i. joined left right (at_split s i);
    begins = λ x o r n i. begun o i;
    along = λ y e allow each r n i. stepped allow each (map_at (λ r. step r e) (t y) i);
  }
    where
      joined :
          {x : X} {s u : List (Route X E)} {r : Route X E} {n : ℕ} → ((r : Route X E) (n : ℕ) → At r s n → Ends S x r) →
          ((r : Route X E) (n : ℕ) → At r u n → Ends S x r) → Split r s u n → Ends S x r
      joined left right (in_left i) = left _ _ i
      joined left right (in_right i e) = right _ _ i

      begun : {x : X} {r : Route X E} {n : ℕ} → S.opens x → At r (start x ∷ []) n → Ends S x r
      begun {x = x} o (at_first e) = subst (Ends S x) (sym e) (start_ends S o)
      begun o (at_next i) = elim i [ ]

      stepped :
          {y : X} {e : E} {r : Route X E} {n : ℕ} → S.allows y e → ((r : Route X E) (n : ℕ) → At r (t y) n → Ends S y r) →
          Image (λ r. step r e) r (t y) n → Ends S (S.leads y e) r
      stepped {y} {e} allow each (image_of {a = r} is i) = subst (Ends S (S.leads y e)) (sym is) (step_ends S e allow (each r _ i))

  -- what is listed is a route that ends there
  pub listed_ends : (x : X) (r : Route X E) (n : ℕ) → At r (t x) n → Ends S x r
  listed_ends = everywhere S layered all_routes t is (λ x s. (r : Route X E) (n : ℕ) → At r s n → Ends S x r) listed_routes

  -- every route that ends there is listed
  pub ends_listed : (x : X) (r : Route X E) → Ends S x r → Listed r (t x)
  unfolding all_routes
  ends_listed x r at =
      subst (λ z. Listed r (t z)) at.ends (reached S layered all_routes t is (λ x s. Unit {0}) anything Listed listing at.runs)
    where
      anything : Invariant S all_routes t (λ x s. Unit {0})
      anything = record { nothing = λ x. tt; join = λ x s u a b. tt; begins = λ x o. tt; along = λ y e allow a. tt }

      listing : Reaching S all_routes t (λ x s. Unit {0}) Listed
      listing = record {
        earlier = λ r run x s u a b i. (i.0, at_left u i.1);
        later = λ r run x s u a b i. (length s + i.0, at_right s i.1);
        begins = λ x o. (0, at_first refl);
        along = λ r e run allow a i. (i.0, at_map (λ r. step r e) i.1);
      }

  -- the routes that a way brings came by it
  brought_by : (x : X) (w : Way X E) (r : Route X E) (n : ℕ) → At r (bring all_routes t x w) n → last_way S r ≡ w
  unfolding bring all_routes last_way
  brought_by x fresh r n (at_first e) = ap (last_way S) e
  brought_by x fresh r n (at_next i) = elim i [ ]
  brought_by x (after y e) r n i = go (map_at (λ r. step r e) (t y) i)
    where
      go : {r : Route X E} {n : ℕ} → Image (λ r. step r e) r (t y) n → last_way S r ≡ after y e
      go (image_of {a = a} is i) = ap (last_way S) is ∙ ap (λ z. after z e) (listed_ends y a _ i).ends

  gathered_by : (x : X) (ws : Ways X E) (r : Route X E) (n : ℕ) → At r (gather all_routes t x ws) n → In (last_way S r) ws
  unfolding gather all_routes
  gathered_by x none r n i = elim i [ ]
  gathered_by x (ws then w) r n i = go (gathered_by x ws r) (at_split (gather all_routes t x ws) i)
    where
      go :
          {n : ℕ} → ((n : ℕ) → At r (gather all_routes t x ws) n → In (last_way S r) ws) →
          Split r (gather all_routes t x ws) (bring all_routes t x w) n → In (last_way S r) (ws then w)
      go before (in_left i) = earlier (before _ i)
      go before (in_right i e) = last (brought_by x w r _ i)

  -- one place in each of the lists joined is one place in all, where no way stands twice
  gathered_once :
      (x : X) (ws : Ways X E) → Once ws →
      ((w : Way X E) → In w ws → (r : Route X E) (n m : ℕ) → At r (bring all_routes t x w) n → At r (bring all_routes t x w) m → n ≡ m) →
      (r : Route X E) (n m : ℕ) → At r (gather all_routes t x ws) n → At r (gather all_routes t x ws) m → n ≡ m
  unfolding gather all_routes
  gathered_once x none once each r n m i k = elim i [ ]
  gathered_once x (ws then w) (once_then once new) each r n m i k =
      go (gathered_once x ws once (λ u at. each u (earlier at)) r) (at_split (gather all_routes t x ws) i)
      (at_split (gather all_routes t x ws) k)
    where
      so_far : List (Route X E)
      so_far = gather all_routes t x ws

      apart : {n m : ℕ} → At r so_far n → At r (bring all_routes t x w) m → ⊥
      apart {n} {m} i k = new (subst (λ u. In u ws) (brought_by x w r m k) (gathered_by x ws r n i))

      go : {n m : ℕ} → ((n m : ℕ) → At r so_far n → At r so_far m → n ≡ m) →
          Split r so_far (bring all_routes t x w) n → Split r so_far (bring all_routes t x w) m → n ≡ m
      go before (in_left i) (in_left k) = before _ _ i k
      go before (in_left i) (in_right k e) = absurd (apart i k)
      go before (in_right i e) (in_left k) = absurd (apart k i)
      go before (in_right {m = a} i e) (in_right {m = b} k f) = e ∙ ap (λ z. length so_far + z) (each w (last refl) r a b i k) ∙ sym f

  -- each has one place only
  pub one_place : (x : X) (r : Route X E) (n m : ℕ) → At r (t x) n → At r (t x) m → n ≡ m
  unfolding Table bring all_routes
  one_place x = go (suc (layered.rank x)) x (omega arith)
    where
      only : {x : X} {r : Route X E} {n : ℕ} → At r (start x ∷ []) n → n ≡ 0
      only (at_first e) = refl
      only (at_next i) = elim i [ ]

      stepped :
          {y : X} {e : E} {r : Route X E} {n m : ℕ} → ((r : Route X E) (n m : ℕ) → At r (t y) n → At r (t y) m → n ≡ m) →
          Image (λ r. step r e) r (t y) n → Image (λ r. step r e) r (t y) m → n ≡ m
      stepped {y} {m = m} before (image_of {a = a} e i) (image_of {a = b} f k) =
          let same : b ≡ a = cc in before a _ _ i (subst (λ z. At z (t y) m) same k)

      brings : (x : X) → ((y : X) → layered.rank y < layered.rank x → (r : Route X E) (n m : ℕ) → At r (t y) n → At r (t y) m → n ≡ m) →
          (w : Way X E) → In w (S.ways x) → (r : Route X E) (n m : ℕ) → At r (bring all_routes t x w) n → At r (bring all_routes t x w) m
          → n ≡ m
      brings x lower fresh at r n m i k = only i ∙ sym (only k)
      brings x lower (after y e) at r n m i k =
          stepped (lower y (layered.falls x y e at)) (map_at (λ r. step r e) (t y) i) (map_at (λ r. step r e) (t y) k)

      go : (b : ℕ) (x : X) → layered.rank x < b → (r : Route X E) (n m : ℕ) → At r (t x) n → At r (t x) m → n ≡ m
      go zero x h r n m i k = absurd (omega arith)
      go (suc b) x h r n m i k =
          gathered_once x (S.ways x) (layered.each_once x) (brings x (λ y l. go b y (omega arith))) r n m
          (subst (λ s. At r s n) (is x) i) (subst (λ s. At r s m) (is x) k)

  -- the lengths of the lists are a table of numbers, and so the only one
  counts_table : Table S route_count (λ x. length (t x))
  unfolding all_routes route_count
  counts_table =
      image S all_routes route_count t length
      record { nothing = refl; join = length-append; begins = λ x. refl; along = λ y e. length-map (t y) (λ r. step r e) } is

  -- the number of routes is the length of their list
  pub counts_length : (counts : X → ℕ) → Table S route_count counts → (x : X) → counts x ≡ length (t x)
  counts_length counts are x = sym (only_table S layered route_count (λ x. length (t x)) counts_table counts are x)
