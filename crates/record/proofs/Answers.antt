-- What a check answers, both ways: by number q exactly when the rules give q, accepted exactly when they give none; how the trailer's
-- rules and then those of the contents decide it, and what lent buffers add to it.
use Prim.Native.Nat.{ℕ}
use mathlib.Core.Bool.{Bool, true, false, cond}
use mathlib.Core.List.{List, [], ◌∷◌, ◌++◌, append_assoc}
use mathlib.Core.Logic.{◌↔◌}
use mathlib.Core.Option.{Option, none, some}
use mathlib.Core.Path.{◌≡◌, refl, sym, ap, ◌∙◌, ap₂}
use borrow.Author.Tests.{eqb-false}
use Rattle.laws.specs.Rules.{Rule, rule, first_of}
use Rattle.laws.proofs.Rules.{first_speaks, second_speaks}
use Rattle.record.specs.Layout.{layout_of, limits_of, limits_at}
use Rattle.record.specs.Conditions.{short_desk}
use Rattle.record.specs.Refusals.{trailer_rules, content_rules, first_rules, candidate_rules, own_rules, refusal_of, refusal_with}
use Rattle.record.specs.Inner.Checks.{answer, checked_of, checked_with}
use Rattle.record.specs.Inner.Accepted.{Laid}
use Rattle.limits.specs.declared.edition.Limits.{Limits}
use Rattle.record.specs.declared.layout.Layout.{Layout}
use Rattle.record.proofs.Accepted.{layout_limits, laid_limits}
use Rattle.limits.specs.declared.refusal.Refusal.{Refusal}
use Rattle.limits.specs.declared.refusal.Refusal.TheVariants.{Desk}
use Rattle.std.specs.Prelude.{Result, Ok, Err}

-- ---- both ways

differ : ◌≡◌ {A = ℕ} 0 1 → ⊥
differ = eqb-false 0 1 refl

pub given : {A : Type 0} (o : Option Refusal) (a : A) (q : Refusal) → answer o a ≡ Err q → o ≡ some q
given none a q e = absurd (differ (cc))
given (some p) a q e = let same : p ≡ q = cc in ap some same

pub accepts : {A : Type 0} (o : Option Refusal) (there a : A) → answer o there ≡ Ok a → (o ≡ none) × (a ≡ there)
accepts none there a e = (refl, cc)
accepts (some p) there a e = absurd (differ (cc))

pub check_refuses : (bytes : List ℕ) (q : Refusal) → (checked_of bytes ≡ Err q) ↔ (refusal_of bytes ≡ some q)
check_refuses bytes q = (given (refusal_of bytes) (layout_of bytes) q, ap (λ (o : Option Refusal). answer o (layout_of bytes)))

pub check_accepts : (bytes : List ℕ) (at : Layout) → (checked_of bytes ≡ Ok at) ↔ Laid bytes at
check_accepts bytes at = (λ e. let h = accepts (refusal_of bytes) (layout_of bytes) at e in record { accepted = h.0; layout = h.1 }, λ h. ap (λ (o : Option Refusal). answer o (layout_of bytes)) h.accepted ∙ ap Ok (sym h.layout))

-- ---- 1 to 4, then 5 to 10

module _ (bytes : List ℕ) where
  abbrev early : List (Rule Refusal)
  early = trailer_rules (limits_of bytes) bytes

  abbrev late : List (Rule Refusal)
  late = content_rules bytes ++ candidate_rules (limits_of bytes) bytes 0 (layout_of bytes).candidates.count

  own_order : refusal_of bytes ≡ first_of (early ++ late)
  unfolding refusal_of own_rules first_rules
  own_order = ap first_of (append_assoc early (content_rules bytes) (candidate_rules (limits_of bytes) bytes 0 (layout_of bytes).candidates.count))

  -- a record that the rules of its trailer refuse is refused by them
  pub trailer_refused : (q : Refusal) → answer (first_of early) (layout_of bytes) ≡ Err q → Err q ≡ checked_of bytes
  trailer_refused q e =
      ap (λ (o : Option Refusal). answer o (layout_of bytes))
      (sym (own_order ∙ first_speaks early late (given (first_of early) (layout_of bytes) q e)))

  -- for any other, those of its contents decide
  pub contents_last : first_of early ≡ none → {at : Layout} → at ≡ layout_of bytes
      → answer (first_of (content_rules bytes ++ candidate_rules (limits_at at) bytes 0 at.candidates.count)) at ≡ checked_of bytes
  contents_last silent laid =
      ap₂ (λ (l : Limits) (at : Layout). answer (first_of (content_rules bytes ++ candidate_rules l bytes 0 at.candidates.count)) at) (layout_limits bytes laid) laid
      ∙ ap (λ (o : Option Refusal). answer o (layout_of bytes)) (sym (own_order ∙ second_speaks early late silent))

  -- what the check of the contents answers is what the whole check does
  abbrev by_contents : Layout → Option Refusal
  by_contents at = first_of (content_rules bytes ++ candidate_rules (limits_at at) bytes 0 at.candidates.count)

  module _ (silent : first_of early ≡ none) {at : Layout} (laid : at ≡ layout_of bytes) where
    pub contents_refused : (q : Refusal) → answer (by_contents at) (tt {0}) ≡ Err q → Err q ≡ checked_of bytes
    contents_refused q e = ap (λ (o : Option Refusal). answer o at) (sym (given (by_contents at) (tt {0}) q e)) ∙ contents_last silent laid

    pub contents_accepted : {done : Unit {0}} → answer (by_contents at) (tt {0}) ≡ Ok done → Ok at ≡ checked_of bytes
    contents_accepted e = ap (λ (o : Option Refusal). answer o at) (sym (accepts (by_contents at) (tt {0}) _ e).0) ∙ contents_last silent laid

-- ---- with lent buffers

module _ (bytes : List ℕ) (best back out : ℕ) where
  -- whether a buffer is too short
  abbrev too_short : Bool
  too_short = short_desk (limits_of bytes) (layout_of bytes).candidates.count best back out

  -- a record that its own rules refuse is refused by them
  pub refused_first : (q : Refusal) → refusal_of bytes ≡ some q → refusal_with bytes best back out ≡ some q
  unfolding refusal_of refusal_with
  refused_first q e = first_speaks (own_rules (limits_of bytes) bytes) (rule Desk too_short ∷ []) e

  -- for any other, 11 decides
  pub desk_last : refusal_of bytes ≡ none → refusal_with bytes best back out ≡ cond too_short (some Desk) none
  unfolding refusal_of refusal_with first_of
  desk_last e = second_speaks (own_rules (limits_of bytes) bytes) (rule Desk too_short ∷ []) e

  -- the answers of a check with lent buffers, from that of the check without
  pub answer_refused : {r : Result Layout Refusal} (q : Refusal) → r ≡ checked_of bytes → r ≡ Err q → Err q ≡ checked_with bytes best back out
  answer_refused q e h = ap (λ (o : Option Refusal). answer o (layout_of bytes)) (sym (refused_first q ((check_refuses bytes q).0 (sym e ∙ h))))

  -- the same by the layout
  laid_desk : {at : Layout} → Laid bytes at → too_short ≡ short_desk (limits_at at) at.candidates.count best back out
  laid_desk h =
      ap₂ (λ (l : Limits) (at : Layout). short_desk l at.candidates.count best back out) (sym (laid_limits h)) (sym h.layout)

  pub answer_short : {at : Layout} → Laid bytes at → short_desk (limits_at at) at.candidates.count best back out ≡ true → Err Desk ≡ checked_with bytes best back out
  answer_short h short =
      ap (λ (o : Option Refusal). answer o (layout_of bytes))
      (sym
      (desk_last h.accepted
      ∙ ap (λ (b : Bool). cond b (some Desk) none) (laid_desk h ∙ short)))

  pub answer_fine : {at : Layout} → Laid bytes at → short_desk (limits_at at) at.candidates.count best back out ≡ false → Ok at ≡ checked_with bytes best back out
  answer_fine h fine =
      ap Ok h.layout
      ∙ ap (λ (o : Option Refusal). answer o (layout_of bytes))
      (sym
      (desk_last h.accepted
      ∙ ap (λ (b : Bool). cond b (some Desk) none) (laid_desk h ∙ fine)))
