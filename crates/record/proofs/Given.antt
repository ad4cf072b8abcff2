-- "Each is given under its condition and under no other", for a record and the buffers lent with it: the refusal given is one whose
-- condition holds, no condition before it in the order of document 01 does, and none is given exactly where no condition holds.
use Prim.Native.Nat.{ℕ, zero, suc, ◌+◌, ◌<◌}
use mathlib.Core.Bool.{Bool, true, false, true≢false}
use mathlib.Core.List.{List, [], ◌∷◌, ◌++◌, append_assoc}
use mathlib.Core.Logic.{◌↔◌, ⊎_elim}
use mathlib.Core.Option.{none, some}
use mathlib.Core.Path.{◌≡◌, refl, sym, ap, ◌∙◌}
use native.Mathlib.Omega.{arith}
use borrow.Author.Tests.{eqb-false, ltb-true}
use lib.Dec.{eqb, ltb}
use Rattle.laws.specs.Inner.Each.{Each, each_none, each_more}
use Rattle.laws.specs.Rules.{Rule, rule, first_of}
use Rattle.laws.proofs.Each.{each_follows, each_split, each_join}
use Rattle.laws.proofs.Rules as in_order
use Rattle.laws.proofs.Rules.{Fails, FirstHolds, Says, given_exactly, none_exactly, none_under, one_speaks, Rising, rising_none, rising_more, lower_fail}
use Rattle.record.specs.Below.{any_below}
use Rattle.record.specs.Layout.{trailer_start, trailer_of, layout_of, limits_of}
use Rattle.record.specs.Conditions.{stub, other_edition, oversized, overreaching, bad_track, bad_cost, bare, repeated, bad_units, bad_column, short_desk}
use Rattle.limits.specs.Refusals.{number_of}
use Rattle.record.specs.Refusals.{trailer_rules, content_rules, first_rules, candidate_rules, own_rules, refusal_of, refusal_with}
use Rattle.limits.specs.declared.refusal.Refusal.{Refusal}
use Rattle.limits.specs.declared.refusal.Refusal.TheVariants.{Stub, Edition, Size, Reach, Track, Cost, Bare, Twice, Units, Column, Desk}
use Rattle.record.proofs.Below.{any_found}
use Rattle.record.proofs.Passed.{Passed, none_holds}

all_fail : (p : ℕ → Bool) (n : ℕ) → ((i : ℕ) → i < n → p i ≡ false) → any_below p n ≡ false
unfolding any_below
all_fail p zero each = refl
all_fail p (suc n) each = rw (all_fail p n (λ i below. each i (omega arith)), each n (omega arith)) refl

module _ (bytes : List ℕ) (best back out : ℕ) where
  -- The condition of each number, for a record and the lengths of the buffers lent; 8, 9 and 10 hold where they hold of a candidate.
  abbrev pub condition_of : Refusal → Bool
  condition_of Stub = stub bytes
  condition_of Edition = other_edition (limits_of bytes) (trailer_of bytes)
  condition_of Size = oversized (limits_of bytes) (trailer_of bytes)
  condition_of Reach = overreaching (limits_of bytes) (trailer_start bytes) (trailer_of bytes)
  condition_of Track = bad_track bytes (layout_of bytes)
  condition_of Cost = bad_cost bytes (layout_of bytes)
  condition_of Bare = bare (layout_of bytes)
  condition_of Twice = any_below (repeated (limits_of bytes) bytes (layout_of bytes)) (layout_of bytes).candidates.count
  condition_of Units = any_below (bad_units (limits_of bytes) bytes (layout_of bytes)) (layout_of bytes).candidates.count
  condition_of Column = any_below (bad_column (limits_of bytes) bytes (layout_of bytes)) (layout_of bytes).candidates.count
  condition_of Desk = short_desk (limits_of bytes) (layout_of bytes).candidates.count best back out

  -- the rules of the record, and 11
  abbrev own : List (Rule Refusal)
  own = own_rules (limits_of bytes) bytes

  abbrev desk : List (Rule Refusal)
  desk = rule Desk (condition_of Desk) ∷ []

  -- a refusal is given exactly where, in the order of the rules, it is the first that holds
  pub given_in_order : (q : Refusal) → (refusal_with bytes best back out ≡ some q) ↔ FirstHolds (own ++ desk) q
  unfolding refusal_with
  given_in_order q = given_exactly (own ++ desk) q

  -- ---- each under its condition

  -- what a rule of the record's own says where it holds: that the condition of its number does, and that it is not 11
  record Own (q : Refusal) : Type 0 where
    condition : condition_of q ≡ true
    not_desk : q ≡ Desk → ⊥

  own_by : (q : Refusal) {holds : Bool} → eqb (number_of q) 11 ≡ false → (holds ≡ true → condition_of q ≡ true) → Says Own (rule q holds)
  own_by q other h = record { says = λ held. record { condition = h held; not_desk = λ same. eqb-false (number_of q) 11 other (ap number_of same) } }

  first_say : Each (Says Own) (first_rules (limits_of bytes) bytes)
  unfolding first_rules trailer_rules content_rules
  first_say =
      each_more (own_by Stub refl (λ h. h))
      (each_more (own_by Edition refl (λ h. h))
      (each_more (own_by Size refl (λ h. h))
      (each_more (own_by Reach refl (λ h. h))
      (each_more (own_by Track refl (λ h. h))
      (each_more (own_by Cost refl (λ h. h))
      (each_more (own_by Bare refl (λ h. h)) each_none))))))

  candidates_say : (i n : ℕ) → i + n ≡ (layout_of bytes).candidates.count → Each (Says Own) (candidate_rules (limits_of bytes) bytes i n)
  unfolding candidate_rules
  candidates_say i zero e = each_none
  candidates_say i (suc n) e =
      let below : i < (layout_of bytes).candidates.count = omega arith in
      each_more (own_by Twice refl (any_found (repeated (limits_of bytes) bytes (layout_of bytes)) i _ below))
      (each_more (own_by Units refl (any_found (bad_units (limits_of bytes) bytes (layout_of bytes)) i _ below))
      (each_more (own_by Column refl (any_found (bad_column (limits_of bytes) bytes (layout_of bytes)) i _ below))
      (candidates_say (suc i) n (omega arith))))

  own_say : Each (Says Own) own
  unfolding own_rules
  own_say = each_join first_say (candidates_say 0 (layout_of bytes).candidates.count (omega arith))

  all_say : Each (Says (λ q. condition_of q ≡ true)) (own ++ desk)
  all_say = each_join (each_follows (λ r s. record { says = λ held. (s.says held).condition }) own_say) (each_more (record { says = λ h. h }) each_none)

  -- "Each is given under its condition"
  pub given_under : (q : Refusal) → refusal_with bytes best back out ≡ some q → condition_of q ≡ true
  unfolding refusal_with
  given_under q e = in_order.given_under (own ++ desk) all_say e

  -- ---- without 11

  -- the same of the record's own rules alone: in their order,
  pub own_in_order : (q : Refusal) → (refusal_of bytes ≡ some q) ↔ FirstHolds own q
  unfolding refusal_of
  own_in_order q = given_exactly own q

  -- each under its condition, and never 11
  pub own_under : (q : Refusal) → refusal_of bytes ≡ some q → (condition_of q ≡ true) × (q ≡ Desk → ⊥)
  unfolding refusal_of
  own_under q e = let its = in_order.given_under own own_say e in (its.condition, its.not_desk)

  -- ---- under none of the others

  -- where no rule of the record's own holds, neither does a condition, but for that of 11
  each_false : Passed (limits_of bytes) bytes → (q : Refusal) → (q ≡ Desk → condition_of q ≡ false) → condition_of q ≡ false
  each_false p Stub last = p.stub
  each_false p Edition last = p.edition
  each_false p Size last = p.size
  each_false p Reach last = p.reach
  each_false p Track last = p.track
  each_false p Cost last = p.cost
  each_false p Bare last = p.bare
  each_false p Twice last = all_fail _ _ (λ i below. (p.candidate i below).twice)
  each_false p Units last = all_fail _ _ (λ i below. (p.candidate i below).units)
  each_false p Column last = all_fail _ _ (λ i below. (p.candidate i below).column)
  each_false p Desk last = last refl

  no_condition : Each Fails (own ++ desk) → (q : Refusal) → condition_of q ≡ false
  no_condition fails q =
      let split = each_split own fails in
      each_false (none_holds (limits_of bytes) bytes split.0) q (λ same. ap condition_of same ∙ only split.1)
    where
      only : {r : Rule Refusal} → Each Fails (r ∷ []) → r.holds ≡ false
      only (each_more f each_none) = f.not_held

  -- none is given exactly where no condition holds
  pub accepted_under_none : (refusal_with bytes best back out ≡ none) ↔ ((q : Refusal) → condition_of q ≡ false)
  unfolding refusal_with
  accepted_under_none = (
    λ e. no_condition ((none_exactly (own ++ desk)).0 e),
    λ none_true. none_under (own ++ desk) all_say (λ q held. true≢false (sym held ∙ none_true q)),
  )

  -- and none of the record's own exactly where no condition holds but for that of 11
  pub own_under_none : (refusal_of bytes ≡ none) ↔ ((q : Refusal) → (q ≡ Desk → ⊥) → condition_of q ≡ false)
  unfolding refusal_of
  own_under_none = (
    λ e q other. each_false (none_holds (limits_of bytes) bytes ((none_exactly own).0 e)) q (λ same. absurd (other same)),
    λ none_true. none_under own own_say (λ q its. true≢false (sym its.condition ∙ none_true q its.not_desk)),
  )

  -- 11 is given only where no other condition holds
  pub desk_alone : refusal_with bytes best back out ≡ some Desk → (p : Refusal) → (p ≡ Desk → ⊥) → condition_of p ≡ false
  unfolding refusal_with
  desk_alone e p other =
      ⊎_elim
      (λ (its : first_of own ≡ some Desk). absurd ((in_order.given_under own own_say its).not_desk refl))
      (λ (last : (first_of own ≡ none) × (first_of desk ≡ some Desk)).
      each_false (none_holds (limits_of bytes) bytes ((none_exactly own).0 last.0)) p (λ same. absurd (other same)))
      (one_speaks own desk e)

  -- ---- the first in the order of 1 to 7

  abbrev first : List (Rule Refusal)
  first = first_rules (limits_of bytes) bytes

  -- the rule of each number from 1 to 7
  of_first : {P : Rule Refusal → Type 0} → Each P first → (p : Refusal) → number_of p < 8 → P (rule p (condition_of p))
  unfolding first_rules trailer_rules content_rules
  of_first (each_more r rs) Stub early = r
  of_first (each_more _ (each_more r rs)) Edition early = r
  of_first (each_more _ (each_more _ (each_more r rs))) Size early = r
  of_first (each_more _ (each_more _ (each_more _ (each_more r rs)))) Reach early = r
  of_first (each_more _ (each_more _ (each_more _ (each_more _ (each_more r rs))))) Track early = r
  of_first (each_more _ (each_more _ (each_more _ (each_more _ (each_more _ (each_more r rs)))))) Cost early = r
  of_first (each_more _ (each_more _ (each_more _ (each_more _ (each_more _ (each_more _ (each_more r rs))))))) Bare early = r
  of_first rs Twice early = let nowhere : ⊥ = omega arith in absurd nowhere
  of_first rs Units early = let nowhere : ⊥ = omega arith in absurd nowhere
  of_first rs Column early = let nowhere : ⊥ = omega arith in absurd nowhere
  of_first rs Desk early = let nowhere : ⊥ = omega arith in absurd nowhere

  -- by place: where places rise along the list, no condition holds that has a lower one than the refusal given
  pub none_earlier : (place : Refusal → ℕ) → Rising place 0 first → (q : Refusal) → refusal_with bytes best back out ≡ some q
      → (p : Refusal) → number_of p < 8 → place p < place q → condition_of p ≡ false
  unfolding refusal_with own_rules
  none_earlier place rises q e p early lower =
      let candidates = candidate_rules (limits_of bytes) bytes 0 (layout_of bytes).candidates.count in
      let ordered = ap first_of (sym (append_assoc first candidates desk)) ∙ e in
      (of_first (lower_fail place first (candidates ++ desk) rises ordered) p early).not_held lower

  rising_by : (q : Refusal) {holds : Bool} {least : ℕ} {later : List (Rule Refusal)}
      → ltb least (number_of q) ≡ true → Rising number_of (number_of q) later → Rising number_of least (rule q holds ∷ later)
  rising_by q {least = least} up more = rising_more (ltb-true least (number_of q) up) more

  numbers_rise : Rising number_of 0 first
  unfolding first_rules trailer_rules content_rules
  numbers_rise =
      rising_by Stub refl
      (rising_by Edition refl
      (rising_by Size refl
      (rising_by Reach refl
      (rising_by Track refl
      (rising_by Cost refl
      (rising_by Bare refl rising_none))))))

  -- "The lowest applicable number is given", of those from 1 to 7
  pub none_lower : (q : Refusal) → refusal_with bytes best back out ≡ some q → (p : Refusal) → number_of p < 8 → number_of p < number_of q → condition_of p ≡ false
  none_lower = none_earlier number_of numbers_rise
