-- What the rules of the contents find: each decides where those before it say nothing.
use Prim.Native.Nat.{ℕ}
use mathlib.Core.Bool.{true, false}
use mathlib.Core.List.{List, ◌++◌}
use mathlib.Core.Option.{Option, some}
use mathlib.Core.Path.{◌≡◌, sym, ap, ◌∙◌}
use borrow.Author.Tests.{eq-eqb, ne_eqb}
use Rattle.laws.specs.Rules.{first_of}
use Rattle.laws.proofs.Rules.{gives, leaves}
use Rattle.record.specs.Layout.{layout_of, limits_at}
use Rattle.record.specs.Conditions.{bad_track, bad_cost}
use Rattle.record.specs.Refusals.{content_rules, candidate_rules}
use Rattle.record.specs.declared.layout.Layout.{Layout}
use Rattle.limits.specs.declared.refusal.Refusal.{Refusal}
use Rattle.limits.specs.declared.refusal.Refusal.TheVariants.{Track, Cost, Bare}

module _ (bytes : List ℕ) (at : Layout) (is : at ≡ layout_of bytes) where
  -- what the rules of the candidates find
  abbrev pub later : Option Refusal
  later = first_of (candidate_rules (limits_at at) bytes 0 at.candidates.count)

  abbrev pub found : Option Refusal
  found = first_of (content_rules bytes ++ candidate_rules (limits_at at) bytes 0 at.candidates.count)

  pub finds_track : bad_track bytes at ≡ true → some Track ≡ found
  unfolding content_rules
  finds_track h = gives _ (ap (bad_track bytes) (sym is) ∙ h)

  module _ (track : bad_track bytes at ≡ false) where
    pub finds_cost : bad_cost bytes at ≡ true → some Cost ≡ found
    unfolding content_rules
    finds_cost h = gives _ (ap (bad_cost bytes) (sym is) ∙ h) ∙ leaves _ _ (ap (bad_track bytes) (sym is) ∙ track)

    module _ (cost : bad_cost bytes at ≡ false) where
      count : (layout_of bytes).candidates.count ≡ at.candidates.count
      count = ap (λ (at : Layout). at.candidates.count) (sym is)

      pub finds_bare : at.candidates.count ≡ 0 → some Bare ≡ found
      unfolding content_rules
      finds_bare none =
          gives _ (eq-eqb _ 0 (count ∙ none))
          ∙ leaves _ _ (ap (bad_cost bytes) (sym is) ∙ cost)
          ∙ leaves _ _ (ap (bad_track bytes) (sym is) ∙ track)

      pub finds_later : (at.candidates.count ≡ 0 → ⊥) → later ≡ found
      unfolding content_rules
      finds_later more =
          leaves _ _ (ne_eqb _ 0 (λ none. more (sym count ∙ none)))
          ∙ leaves _ _ (ap (bad_cost bytes) (sym is) ∙ cost)
          ∙ leaves _ _ (ap (bad_track bytes) (sym is) ∙ track)
