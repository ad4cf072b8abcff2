-- What the check of an accepted call says of it: its buffers are long enough.
use Prim.Native.Nat.{ℕ, ◌*◌, ◌≤◌}
use mathlib.Core.Bool.{Bool, true, false, ◌||◌, cond}
use mathlib.Core.List.{List}
use mathlib.Core.Option.{Option, none, some, some-ne-none}
use mathlib.Core.Path.{◌≡◌, refl, sym, subst, ◌∙◌}
use borrow.Author.Tests.{ltb-false}
use lib.Dec.{ltb}
use lib.ListN.{length}
use Rattle.laws.proofs.Listed.{length_listed}
use Rattle.laws.proofs.Choices.{neither_left, neither_right}
use Rattle.limits.specs.Sizes.{entry_words, work_cells}
use Rattle.record.specs.Layout.{layout_of, limits_of}
use Rattle.record.specs.Conditions.{short_desk}
use Rattle.record.specs.Refusals.{refusal_of, refusal_with}
use Rattle.record.specs.Inner.Checks.{checked_with}
use Rattle.record.specs.Meaning.{phrase_at, phrase_of}
use Rattle.record.specs.Inner.Accepted.{Laid}
use Rattle.record.specs.declared.layout.Layout.{Layout}
use Rattle.limits.specs.declared.refusal.Refusal.{Refusal}
use Rattle.limits.specs.declared.refusal.Refusal.TheVariants.{Desk}
use Rattle.std.specs.Prelude.{Ok}
use Rattle.record.proofs.Answers.{accepts, refused_first, desk_last}

-- M by the layout is M by the phrase
pub candidates_counted : (bytes : List ℕ) → length (phrase_of bytes).candidates ≡ (layout_of bytes).candidates.count
unfolding phrase_of phrase_at
candidates_counted bytes = length_listed _ (layout_of bytes).candidates.count

-- an accepted call: its record is laid out, and its buffers, of so many elements, are long enough
pub record AcceptedCall (bytes : List ℕ) (best back out : ℕ) (at : Layout) : Type 0 where
  pub none_given : refusal_with bytes best back out ≡ none
  pub laid : Laid bytes at
  pub values : work_cells (limits_of bytes) ≤ best
  pub marks : work_cells (limits_of bytes) ≤ back
  pub words : length (phrase_of bytes).candidates * entry_words (limits_of bytes).units ≤ out

module _ (bytes : List ℕ) (best back out : ℕ) where
  -- a record that is accepted with lent buffers is one that no rule of its own refuses
  pub own_rules_law : refusal_with bytes best back out ≡ none → refusal_of bytes ≡ none
  own_rules_law accepted = go (refusal_of bytes) refl
    where
      go : (o : Option Refusal) → refusal_of bytes ≡ o → refusal_of bytes ≡ none
      go none e = e
      go (some q) e = absurd (some-ne-none q (sym (refused_first bytes best back out q e) ∙ accepted))

  long_enough : refusal_with bytes best back out ≡ none
      → short_desk (limits_of bytes) (layout_of bytes).candidates.count best back out ≡ false
  long_enough accepted =
      go (short_desk (limits_of bytes) (layout_of bytes).candidates.count best back out)
      (sym (desk_last bytes best back out (own_rules_law accepted)) ∙ accepted)
    where
      go : (short : Bool) → cond short (some Desk) none ≡ none → short ≡ false
      go true e = absurd (some-ne-none Desk e)
      go false e = refl

  pub accepted_call : (at : Layout) → checked_with bytes best back out ≡ Ok at → AcceptedCall bytes best back out at
  accepted_call at e =
      let h = accepts (refusal_with bytes best back out) (layout_of bytes) at e in
      let count = (layout_of bytes).candidates.count in
      let few-values = ltb best (work_cells (limits_of bytes)) in
      let few-marks = ltb back (work_cells (limits_of bytes)) in
      let few_words = ltb out (count * entry_words (limits_of bytes).units) in
      let long = long_enough h.0 in
      let cells = neither_left (few-values || few-marks) few_words long in
      record {
        none_given = h.0;
        laid = record { accepted = own_rules_law h.0; layout = h.1 };
        values = ltb-false best (work_cells (limits_of bytes)) (neither_left few-values few-marks cells);
        marks = ltb-false back (work_cells (limits_of bytes)) (neither_right few-values few-marks cells);
        words =
            subst (λ (m : ℕ). m * entry_words (limits_of bytes).units ≤ out) (sym (candidates_counted bytes))
            (ltb-false out (count * entry_words (limits_of bytes).units) (neither_right (few-values || few-marks) few_words long));
      }
