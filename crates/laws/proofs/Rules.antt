-- What an ordered list of rules gives, for any rules: an answer exactly where a rule of it holds and no rule before it does, none exactly
-- where no rule holds, and of two lists one after the other what the second gives only where the first gives none.
use Prim.Native.Nat.{ℕ, ◌≤◌, ◌<◌}
use mathlib.Core.Bool.{Bool, true, false, cond}
use mathlib.Core.List.Memᴰ
use mathlib.Core.List.{List, [], ◌∷◌, ◌++◌, Memᴰ}
use mathlib.Core.Logic.{◌↔◌, ◌⊎◌, inl, inr}
use mathlib.Core.Option.{Option, none, some, or_else, some-injective, none-ne-some, some-ne-none}
use mathlib.Core.Path.{◌≡◌, refl, sym, ap, subst, ◌∙◌}
use native.Mathlib.Nat.{le_trans, le_of_lt, lt_irrefl}
use Rattle.laws.specs.Inner.Each.{Each, each_none, each_more}
use Rattle.laws.specs.Rules.{Rule, rule, first_of}
use Rattle.laws.proofs.Choices.{taken, passed}
use Rattle.laws.proofs.Numbers.{by_order}

-- ---- a single rule, before others

module _ {R : Type 0} where
  pub record Fails (r : Rule R) : Type 0 where
    pub not_held : r.holds ≡ false

  -- a rule that gives an answer, or leaves it to the others
  by_first {ℓ} : {A : Type ℓ} (b : Bool) (p q : R) (rest : Option R) → cond b (some p) rest ≡ some q
      → (b ≡ true → p ≡ q → A) → (b ≡ false → rest ≡ some q → A) → A
  by_first true p q rest e here later = here refl (some-injective p q e)
  by_first false p q rest e here later = later refl e

  first_fails : (b : Bool) (p : R) (rest : Option R) → cond b (some p) rest ≡ none → (b ≡ false) × (rest ≡ none)
  first_fails true p rest e = absurd (some-ne-none p e)
  first_fails false p rest e = (refl, e)

  -- ---- rule by rule, as code tests them

  -- one that holds gives its answer
  pub gives : {q : R} {held : Bool} (rs : List (Rule R)) → held ≡ true → some q ≡ first_of (rule q held ∷ rs)
  unfolding first_of
  gives rs e = taken (first_of rs) e

  -- one that does not leaves it to the others
  pub leaves : (q : R) {held : Bool} (rs : List (Rule R)) → held ≡ false → first_of rs ≡ first_of (rule q held ∷ rs)
  unfolding first_of
  leaves q rs e = passed (some q) e refl

  -- ---- the answer given

  -- rules that do not hold, then one with the answer q that does, then any others
  pub record FirstHolds (rules : List (Rule R)) (q : R) : Type 0 where
    pub before : List (Rule R)
    pub its : Rule R
    pub after : List (Rule R)
    pub order : rules ≡ before ++ (its ∷ after)
    pub passed : Each Fails before
    pub holds : its.holds ≡ true
    pub names : its.answer ≡ q

  put_before : {q : R} (r : Rule R) {rs : List (Rule R)} → r.holds ≡ false → FirstHolds rs q → FirstHolds (r ∷ rs) q
  put_before r e f =
      record {
        before = r ∷ f.before;
        its = f.its;
        after = f.after;
        order = ap (λ (rs : List (Rule R)). r ∷ rs) f.order;
        passed = each_more (record { not_held = e }) f.passed;
        holds = f.holds;
        names = f.names;
      }

  first_holds : (rules : List (Rule R)) {q : R} → first_of rules ≡ some q → FirstHolds rules q
  unfolding first_of
  first_holds [] {q} e = absurd (none-ne-some q e)
  first_holds (r ∷ rs) {q} e =
      by_first r.holds r.answer q (first_of rs) e
      (λ held same. record { before = []; its = r; after = rs; order = refl; passed = each_none; holds = held; names = same })
      (λ fails rest. put_before r fails (first_holds rs rest))

  first_given : {before : List (Rule R)} (its : Rule R) (after : List (Rule R)) {q : R} → Each Fails before → its.holds ≡ true → its.answer ≡ q
      → first_of (before ++ (its ∷ after)) ≡ some q
  unfolding first_of
  first_given its after each_none held same = rw held (ap some same)
  first_given its after (each_more f fs) held same = rw f.not_held (first_given its after fs held same)

  -- an answer is given exactly where a rule with it holds and no rule before that one does
  pub given_exactly : (rules : List (Rule R)) (q : R) → (first_of rules ≡ some q) ↔ FirstHolds rules q
  given_exactly rules q = (
    first_holds rules,
    λ f. ap first_of f.order ∙ first_given f.its f.after f.passed f.holds f.names,
  )

  -- the answer given is that of a rule of the list whose condition holds
  pub record Held (rules : List (Rule R)) (q : R) : Type 0 where
    pub its : Rule R
    pub listed : Memᴰ its rules
    pub holds : its.holds ≡ true
    pub names : its.answer ≡ q

  pub given_holds : (rules : List (Rule R)) {q : R} → first_of rules ≡ some q → Held rules q
  given_holds rules e =
      let f = first_holds rules e in
      record {
        its = f.its;
        listed = subst (Memᴰ f.its) (sym f.order) (Memᴰ.append_right f.before (Memᴰ.head refl));
        holds = f.holds;
        names = f.names;
      }

  -- what each rule, where it holds, says of its answer is so of the answer given
  pub record Says (P : R → Type 0) (r : Rule R) : Type 0 where
    pub says : r.holds ≡ true → P r.answer

  pub given_under : {P : R → Type 0} (rules : List (Rule R)) {q : R} → Each (Says P) rules → first_of rules ≡ some q → P q
  unfolding first_of
  given_under [] {q} each_none e = absurd (none-ne-some q e)
  given_under {P} (r ∷ rs) {q} (each_more s ss) e =
      by_first r.holds r.answer q (first_of rs) e (λ held same. subst P same (s.says held)) (λ fails rest. given_under rs ss rest)

  -- so where none of it is so of any answer, none is given
  pub none_under : {P : R → Type 0} (rules : List (Rule R)) → Each (Says P) rules → ((q : R) → P q → ⊥) → first_of rules ≡ none
  none_under rules says never = go (first_of rules) refl
    where
      go : (o : Option R) → first_of rules ≡ o → first_of rules ≡ none
      go none e = e
      go (some q) e = absurd (never q (given_under rules says e))

  -- ---- no answer

  none_fails : (rules : List (Rule R)) → first_of rules ≡ none → Each Fails rules
  unfolding first_of
  none_fails [] e = each_none
  none_fails (r ∷ rs) e = let f = first_fails r.holds r.answer (first_of rs) e in each_more (record { not_held = f.0 }) (none_fails rs f.1)

  fails_none : {rules : List (Rule R)} → Each Fails rules → first_of rules ≡ none
  unfolding first_of
  fails_none each_none = refl
  fails_none (each_more f fs) = rw f.not_held (fails_none fs)

  -- none is given exactly where no rule holds
  pub none_exactly : (rules : List (Rule R)) → (first_of rules ≡ none) ↔ Each Fails rules
  none_exactly rules = (none_fails rules, fails_none)

  -- ---- two lists, one after the other

  test_first : (b : Bool) (q : R) (o p : Option R) {r : Option R} → r ≡ or_else o p → cond b (some q) r ≡ or_else (cond b (some q) o) p
  unfolding or_else
  test_first true q o p e = refl
  test_first false q o p e = e

  -- the second list speaks where the first is silent
  pub first_then : (rs ss : List (Rule R)) → first_of (rs ++ ss) ≡ or_else (first_of rs) (first_of ss)
  unfolding first_of or_else
  first_then [] ss = refl
  first_then (r ∷ rs) ss = test_first r.holds r.answer (first_of rs) (first_of ss) (first_then rs ss)

  module _ (rs ss : List (Rule R)) where
    pub first_speaks : {q : R} → first_of rs ≡ some q → first_of (rs ++ ss) ≡ some q
    unfolding or_else
    first_speaks e = first_then rs ss ∙ ap (λ (o : Option R). or_else o (first_of ss)) e

    pub second_speaks : first_of rs ≡ none → first_of (rs ++ ss) ≡ first_of ss
    unfolding or_else
    second_speaks e = first_then rs ss ∙ ap (λ (o : Option R). or_else o (first_of ss)) e

    -- and there only
    pub one_speaks : {q : R} → first_of (rs ++ ss) ≡ some q → (first_of rs ≡ some q) ⊎ ((first_of rs ≡ none) × (first_of ss ≡ some q))
    unfolding or_else
    one_speaks {q} e = go (first_of rs) (sym (first_then rs ss) ∙ e)
      where
        go : (o : Option R) → or_else o (first_of ss) ≡ some q → (o ≡ some q) ⊎ ((o ≡ none) × (first_of ss ≡ some q))
        go none h = inr (refl, h)
        go (some p) h = inl h

  -- ---- an answer that stands in one place

  pub record Another (q : R) (r : Rule R) : Type 0 where
    pub other : r.answer ≡ q → ⊥

  -- rules with other answers than the one given do not hold where they stand before it
  pub passed_over : (rs ss : List (Rule R)) {q : R} → Each (Another q) rs → first_of (rs ++ ss) ≡ some q
      → Each Fails rs × (first_of ss ≡ some q)
  unfolding first_of
  passed_over [] ss each_none e = (each_none, e)
  passed_over (r ∷ rs) ss {q} (each_more a more) e =
      by_first r.holds r.answer q (first_of (rs ++ ss)) e
      (λ held same. absurd (a.other same))
      (λ fails rest. let past = passed_over rs ss more rest in (each_more (record { not_held = fails }) past.0, past.1))

  -- ---- places that are known by a number

  -- the answers' places rise along the list, from above `least` on
  pub data Rising (place : R → ℕ) : ℕ → List (Rule R) → Type 0 where
    rising_none : {least : ℕ} → Rising place least []
    rising_more : {least : ℕ} {r : Rule R} {rs : List (Rule R)}
        → least < place r.answer → Rising place (place r.answer) rs → Rising place least (r ∷ rs)

  -- the rule does not hold where its place is below n
  pub record FailsBelow (place : R → ℕ) (n : ℕ) (r : Rule R) : Type 0 where
    pub not_held : place r.answer < n → r.holds ≡ false

  not_below : {place : R → ℕ} {n : ℕ} {r : Rule R} → n ≤ place r.answer → FailsBelow place n r
  not_below above = record { not_held = λ lower. absurd (lt_irrefl _ (le_trans lower above)) }

  none_below : {place : R → ℕ} {n least : ℕ} {rs : List (Rule R)} → n ≤ least → Rising place least rs → Each (FailsBelow place n) rs
  none_below above rising_none = each_none
  none_below above (rising_more up more) =
      each_more (not_below (le_trans above (le_of_lt up))) (none_below (le_trans above (le_of_lt up)) more)

  -- no rule holds whose place is lower than that of the answer given
  pub lower_fail : (place : R → ℕ) (rs ss : List (Rule R)) {least : ℕ} {q : R} → Rising place least rs → first_of (rs ++ ss) ≡ some q
      → Each (FailsBelow place (place q)) rs
  lower_fail place [] ss rising_none e = each_none
  lower_fail place (r ∷ rs) ss {q = q} (rising_more up more) e =
      by_order (place r.answer) (place q)
      (λ lower.
      let other : r.answer ≡ q → ⊥ = λ same. lt_irrefl _ (subst (λ (n : ℕ). n < place q) (ap place same) lower) in
      let past = passed_over (r ∷ []) (rs ++ ss) (each_more (record { other = other }) each_none) e in
      each_more (record { not_held = λ lower. only past.0 }) (lower_fail place rs ss more past.1))
      (λ above. each_more (not_below above) (none_below above more))
    where
      only : {r : Rule R} → Each Fails (r ∷ []) → r.holds ≡ false
      only (each_more f each_none) = f.not_held
