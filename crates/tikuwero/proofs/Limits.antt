-- The values that are returned are small numbers.
use Prim.Native.Nat.{ℕ, ◌≤◌, zero-le}
use mathlib.Core.Bool.{false}
use mathlib.Core.List.{List, ◌∷◌}
use mathlib.Core.Path.{◌≡◌, refl, sym, subst}
use mathlib.Core.Option.{Option, none, some}
use native.Mathlib.Nat.{le_trans}
use lib.ListN.{length}
use borrow.Author.Tests.{ltb-false}
use Rattle.std.specs.Prelude.{Some, Ok}
use Rattle.laws.specs.Inner.Each.{Each, each_more}
use Rattle.laws.specs.Rules.{Rule}
use Rattle.laws.proofs.Rules.{Fails, none_exactly}
use Rattle.laws.proofs.Choices.{neither_left}
use Rattle.frames.specs.Outcome.{Outcome, accepted, refused, most_frames}
use Rattle.frames.proofs.Outcomes.{accepts_exactly}
use Rattle.frames.proofs.Ascending.{ascending_le}
use Rattle.spans.specs.Spans.{tbu_spans_of}
use Rattle.limits.specs.Capacity.{most_units, most_candidates}
use Rattle.limits.proofs.Editions.{moderate}
use Rattle.record.specs.Layout.{layout_of}
use Rattle.record.specs.Meaning.{phrase_of}
use Rattle.record.specs.Refusals.{refusal_with}
use Rattle.limits.specs.declared.refusal.Refusal.{Refusal}
use Rattle.record.specs.declared.read.Which.{Which}
use Rattle.record.proofs.Accepted.{counts, own_moderate}
use Rattle.paths.specs.declared.passes.Strictness.{Strictness}
use Rattle.most_units.specs.Answers.{Answers, is_counted}
use Rattle.decoding.specs.Contract.{outcome_of}
use Rattle.decoding.proofs.Calls.{own_rules_law, candidates_counted}

-- the value of an accepted outcome, and what stands in for it
abbrev value_or : ℕ → Outcome ℕ → ℕ
value_or other (accepted n) = n
value_or other (refused number) = other

-- a count of spans is at most the most frames of a list
pub spans_within : (nuclei bounds : List ℕ) (lo hi room : ℕ) {count : ℕ} → accepted count ≡ tbu_spans_of nuclei bounds lo hi room → count ≤ most_frames
unfolding tbu_spans_of
spans_within nuclei bounds lo hi room {count} e =
    let h = (accepts_exactly _ _ count).0 (sym e) in
    let few : length nuclei ≤ most_frames = ltb-false most_frames (length nuclei) (neither_left _ _ (first ((none_exactly _).0 h.0))) in
    subst (λ (n : ℕ). n ≤ most_frames) h.1 (le_trans (ascending_le (length nuclei) 0 nuclei) few)
  where
    first : {r : Rule ℕ} {rs : List (Rule ℕ)} → Each Fails (r ∷ rs) → r.holds ≡ false
    first (each_more f fs) = f.not_held

-- a count of entries is at most the most candidates of a record
pub entries_within :
    (bytes : List ℕ) (best back out : ℕ) {count : ℕ} →
    accepted count ≡ outcome_of (refusal_with bytes best back out) (length (phrase_of bytes).candidates) → count ≤ most_candidates
entries_within bytes best back out told =
    subst (λ (o : Outcome ℕ). value_or 0 o ≤ most_candidates) (sym told) (go (refusal_with bytes best back out) refl)
  where
    go : (r : Option Refusal) → refusal_with bytes best back out ≡ r → value_or 0 (outcome_of r (length (phrase_of bytes).candidates)) ≤ most_candidates
    go none e =
        subst (λ (m : ℕ). m ≤ most_candidates) (sym (candidates_counted bytes))
        (le_trans (counts {bytes = bytes} {at = layout_of bytes} (record { accepted = own_rules_law bytes best back out e; layout = refl })).candidates (moderate _).candidates)
    go (some q) e = zero-le

-- a count of units is at most the most units of an edition
pub units_within : {bytes : List ℕ} {which : Which} {strictness : Strictness} {units : ℕ} → Answers bytes which strictness (Ok (Some units))
    → units ≤ most_units
units_within {bytes} (is_counted own most) = le_trans most.capped (own_moderate bytes).units
