-- What the rules of the trailer find: each decides where those before it say nothing, and where none does the record has its layout.
use Prim.Native.Nat.{ℕ}
use mathlib.Core.Bool.{Bool, true, false}
use mathlib.Core.List.{List}
use mathlib.Core.Option.{Option}
use mathlib.Core.Path.{◌≡◌, sym, ap, ap₂, subst⁻¹, ◌∙◌}
use lib.ListN.{drop}
use Rattle.std.specs.Prelude.{Result, Ok, Err}
use Rattle.laws.specs.Rules.{Rule, first_of}
use Rattle.laws.proofs.Rules.{gives, leaves}
use Rattle.limits.specs.Edition.{numbers_of}
use Rattle.limits.specs.Inner.Moderate.{Moderate}
use Rattle.limits.proofs.Editions.{moderate}
use Rattle.record.specs.Layout.{trailer_start, trailer_of, layout_from, layout_of, limits_of}
use Rattle.record.specs.Conditions.{stub, other_edition, oversized, overreaching}
use Rattle.record.specs.Refusals.{trailer_rules}
use Rattle.record.specs.Inner.Checks.{answer}
use Rattle.limits.specs.declared.edition.Limits.{Limits}
use Rattle.limits.specs.declared.refusal.Refusal.{Refusal}
use Rattle.limits.specs.declared.refusal.Refusal.TheVariants.{Stub, Edition, Size, Reach}
use Rattle.record.specs.declared.trailer.Trailer.{Trailer}
use Rattle.record.specs.declared.layout.Layout.{Layout}

module _ (bytes : List ℕ) where
  -- the rules after the first n
  abbrev after : ℕ → List (Rule Refusal)
  after n = drop n (trailer_rules (limits_of bytes) bytes)

  -- what is answered by what rules find
  abbrev pub said : List (Rule Refusal) → Result Layout Refusal
  said rules = answer (first_of rules) (layout_of bytes)

  abbrev told : {o : Option Refusal} → o ≡ first_of (after 0) → answer o (layout_of bytes) ≡ said (after 0)
  told e = ap (λ (o : Option Refusal). answer o (layout_of bytes)) e

  pub finds_stub : stub bytes ≡ true → Err Stub ≡ said (after 0)
  unfolding trailer_rules
  finds_stub h = told (gives _ h)

  module _ (whole : stub bytes ≡ false) {t : Trailer} (read : t ≡ trailer_of bytes) {l : Limits} (known : l ≡ numbers_of t.edition) where
    own : l ≡ limits_of bytes
    own = known ∙ ap (λ (t : Trailer). numbers_of t.edition) read

    pub own_moderate : Moderate l
    own_moderate = subst⁻¹ Moderate known (moderate _)

    -- what a test finds with these is what its rule says
    same : (test : Limits → Trailer → Bool) {b : Bool} → test l t ≡ b → test (limits_of bytes) (trailer_of bytes) ≡ b
    same test h = ap₂ test (sym own) (sym read) ∙ h

    left-1 : first_of (after 1) ≡ first_of (after 0)
    unfolding trailer_rules
    left-1 = leaves _ _ whole

    pub finds_edition : other_edition l t ≡ true → Err Edition ≡ said (after 0)
    unfolding trailer_rules
    finds_edition h = told (gives _ (same other_edition h) ∙ left-1)

    module _ (this : other_edition l t ≡ false) where
      left-2 : first_of (after 2) ≡ first_of (after 0)
      unfolding trailer_rules
      left-2 = leaves _ _ (same other_edition this) ∙ left-1

      pub finds_size : oversized l t ≡ true → Err Size ≡ said (after 0)
      unfolding trailer_rules
      finds_size h = told (gives _ (same oversized h) ∙ left-2)

      module _ (few : oversized l t ≡ false) where
        left-3 : first_of (after 3) ≡ first_of (after 0)
        unfolding trailer_rules
        left-3 = leaves _ _ (same oversized few) ∙ left-2

        abbrev pub reach : Limits → Trailer → Bool
        reach l t = overreaching l (trailer_start bytes) t

        pub finds_reach : reach l t ≡ true → Err Reach ≡ said (after 0)
        unfolding trailer_rules
        finds_reach h = told (gives _ (same reach h) ∙ left-3)

        left-4 : reach l t ≡ false → first_of (after 4) ≡ first_of (after 0)
        unfolding trailer_rules
        left-4 h = leaves _ _ (same reach h) ∙ left-3

        pub finds_none : reach l t ≡ false → {at : Layout} → at ≡ layout_from (trailer_start bytes) t → Ok at ≡ said (after 0)
        unfolding trailer_rules first_of layout_of
        finds_none h laid = ap Ok (laid ∙ ap (layout_from (trailer_start bytes)) read) ∙ told (left-4 h)
