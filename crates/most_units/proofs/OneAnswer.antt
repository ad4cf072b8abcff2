-- Every call has exactly one answer that meets its contract, told by its number; "no path" is said exactly where the stage has no boundary.
-- Assumes nothing.
use Prim.Native.Nat.{ℕ, zero, suc, ◌+◌, ◌<◌}
use native.Mathlib.Omega.{arith}
use mathlib.Core.Bool.{Bool, cond}
use mathlib.Core.List.{List, [], ◌∷◌}
use mathlib.Core.Logic.{◌↔◌}
use mathlib.Core.Option.{Option, none, some, some-ne-none}
use Rattle.std.specs.Prelude.{Option as Optional, Some, None, Result, Ok, Err}
use mathlib.Core.Path.{◌≡◌, refl, sym, ap, subst, ◌∙◌}
use borrow.Author.Tests.{ne_eqb}
use lib.Dec.{eqb}
use lib.IntN.{ℤ, pos, negsuc}
use lib.ListN.{length}
use Rattle.laws.specs.Theory.OneOutcome.{ExactlyOne}
use Rattle.laws.proofs.Numbers.{by_order}
use Rattle.laws.proofs.Lists.{length_none}
use Rattle.paths.specs.declared.passes.Strictness.{Strictness}
use Rattle.paths.specs.Anchors.{kept}
use Rattle.paths.specs.Inner.Ranges.{low_origin, origins_end, first_reached}
use Rattle.paths.proofs.Ranges.{origins}
use Rattle.phrase.specs.Phrase.{Stage}
use Rattle.record.specs.Layout.{layout_of, limits_of}
use Rattle.record.specs.Meaning.{phrase_of, stage_of}
use Rattle.record.specs.Refusals.{refusal_of}
use Rattle.record.specs.Inner.Accepted.{Laid}
use Rattle.record.specs.declared.read.Which.{Which}
use Rattle.record.specs.declared.read.Which.TheVariants.{Count}
use Rattle.limits.specs.declared.refusal.Refusal.{Refusal}
use Rattle.limits.specs.declared.refusal.Refusal.TheVariants.{Stub, Edition, Size, Reach, Track, Cost, Bare, Twice, Units as BadUnits, Column, Desk}
use Rattle.record.proofs.Accepted.{fit, own_moderate}
use Rattle.record.proofs.Given.{own_under}
use Rattle.limits.proofs.Named.{named}
use Rattle.prepare.proofs.Parts.{boundaries_fit}
use Rattle.most_units.specs.Most.{paths_of, Most}
use Rattle.most_units.specs.Answers.{Answers, is_refused, no_boundary, is_counted, no_path_number, number_for}
use Rattle.most_units.specs.Inner.Last.{LastReached}
use Rattle.most_units.proofs.Largest.{one_most, some_boundary, one_boundary, last_most}
use Rattle.most_units.proofs.Words.{starts_first}

-- ---- some answer

-- there is a last count that reaches a boundary, whatever each of them reaches
last_count : (first : ℕ → ℕ) (n : ℕ) → first 0 < n → (cap : ℕ) → (units : ℕ) × LastReached first n cap units
last_count first n starts zero = (0, record { capped = omega arith; reaches = starts; ends = λ h. absurd (omega arith) })
last_count first n starts (suc cap) =
    let before = last_count first n starts cap in
    by_order before.0 cap
    (λ less. (before.0, record { capped = omega arith; reaches = before.1.reaches; ends = λ h. before.1.ends less }))
    (λ all.
    by_order (first (before.0 + 1)) n
    (λ more. (before.0 + 1, record { capped = omega (arith, before.1.capped); reaches = more; ends = λ h. absurd (omega arith) }))
    (λ none. (before.0, record { capped = omega (arith, before.1.capped); reaches = before.1.reaches; ends = λ h. none })))

module _ (bytes : List ℕ) (which : Which) (strictness : Strictness) where
  abbrev stage : Stage
  stage = stage_of which (phrase_of bytes)

  -- the count of an accepted record whose stage has a boundary
  counted : refusal_of bytes ≡ none → 0 < length stage.boundaries
      → (units : ℕ) × Most (paths_of (phrase_of bytes) stage strictness) (limits_of bytes).units units
  counted accepted bounded =
      let laid : Laid bytes (layout_of bytes) = record { accepted = accepted; layout = refl } in
      let anchors = kept (phrase_of bytes) stage in
      let bounds = stage.boundaries in
      let last = last_count
      (first_reached (low_origin anchors bounds) (origins_end strictness anchors bounds) (length bounds)) (length bounds)
      (omega (arith, starts_first anchors bounds strictness)) (limits_of bytes).units in (
        last.0,
        last_most (paths_of (phrase_of bytes) stage strictness)
            (origins anchors bounds (boundaries_fit laid which).ascending strictness) last.1,
      )

  answer : (refusal : Option Refusal) → refusal_of bytes ≡ refusal → (l : List ℕ) → stage.boundaries ≡ l
      → (a : Result (Optional ℕ) Refusal) × Answers bytes which strictness a
  answer (some refusal) e l f = (Err refusal, is_refused e)
  answer none e [] f = (Ok None, no_boundary e f)
  answer none e (frame ∷ l) f = let found = counted e (omega (arith, ap length f)) in (Ok (Some found.0), is_counted e found.1)

  -- ---- one answer

  abbrev refused_by : Option Refusal → Result (Optional ℕ) Refusal
  refused_by none = Ok None
  refused_by (some refusal) = Err refusal

  same_answer : {a b : Result (Optional ℕ) Refusal} → Answers bytes which strictness a → Answers bytes which strictness b → a ≡ b
  same_answer (is_refused e) (is_refused f) = ap refused_by (sym e ∙ f)
  same_answer (is_refused e) (no_boundary f g) = absurd (some-ne-none _ (sym e ∙ f))
  same_answer (is_refused e) (is_counted f m) = absurd (some-ne-none _ (sym e ∙ f))
  same_answer (no_boundary e g) (is_refused f) = absurd (some-ne-none _ (sym f ∙ e))
  same_answer (no_boundary e g) (no_boundary f h) = refl
  same_answer (no_boundary e g) (is_counted f m) = absurd (omega (arith, some_boundary m, ap length g))
  same_answer (is_counted e m) (is_refused f) = absurd (some-ne-none _ (sym f ∙ e))
  same_answer (is_counted e m) (no_boundary f g) = absurd (omega (arith, some_boundary m, ap length g))
  same_answer (is_counted e m) (is_counted f n) = ap (λ (units : ℕ). Ok (Some units)) (one_most m n)

  pub one_answer : ExactlyOne (λ (a : Result (Optional ℕ) Refusal). Answers bytes which strictness a)
  one_answer = record {
    some_outcome = answer (refusal_of bytes) refl stage.boundaries refl;
    one_outcome = λ a b p q. same_answer p q;
  }

  -- "no path" exactly where the stage of an accepted record has no boundary
  pub no_path_exactly : refusal_of bytes ≡ none → {a : Result (Optional ℕ) Refusal} → Answers bytes which strictness a
      → (a ≡ Ok None) ↔ (stage.boundaries ≡ [])
  no_path_exactly accepted {a} answers = (
    λ e. go (subst (Answers bytes which strictness) e answers),
    λ e. same_answer answers (no_boundary accepted e),
  )
    where
      go : Answers bytes which strictness (Ok None) → stage.boundaries ≡ []
      go (no_boundary _ e) = e

  -- one boundary gives 0
  pub one_boundary_0 : refusal_of bytes ≡ none → length stage.boundaries ≡ 1 → Answers bytes which strictness (Ok (Some 0))
  one_boundary_0 accepted one =
      is_counted accepted (one_boundary (paths_of (phrase_of bytes) stage strictness) one (limits_of bytes).units)

-- ---- the number of an answer

-- the answer that a number stands for
abbrev answer_of : ℤ → Result (Optional ℕ) Refusal
answer_of (pos n) = cond (eqb n no_path_number) (Ok None) (Ok (Some n))
answer_of (negsuc n) = Err (named (suc n))

told : (q : Refusal) → answer_of (number_for (Err q)) ≡ Err q
told Stub = refl
told Edition = refl
told Size = refl
told Reach = refl
told Track = refl
told Cost = refl
told Bare = refl
told Twice = refl
told BadUnits = refl
told Column = refl
told Desk = refl

known : {bytes : List ℕ} {which : Which} {strictness : Strictness} {a : Result (Optional ℕ) Refusal} → Answers bytes which strictness a
    → answer_of (number_for a) ≡ a
known (is_refused {refusal = refusal} e) = told refusal
known (no_boundary e f) = refl
known {bytes} (is_counted {units = units} e m) =
    ap (λ (b : Bool). cond b (Ok None) (Ok (Some units))) (ne_eqb units no_path_number (λ same. omega (arith, m.capped, (own_moderate bytes).units)))

-- each answer has a number of its own, whatever the two calls were
pub known_by_number :
    {bytes bytes' : List ℕ} {which which' : Which} {strictness strictness' : Strictness} {a b : Result (Optional ℕ) Refusal} →
    Answers bytes which strictness a → Answers bytes' which' strictness' b → number_for a ≡ number_for b → a ≡ b
known_by_number one other same = sym (known one) ∙ ap answer_of same ∙ known other

-- "The record is checked as for decoding, without 11."
pub never_desk : {bytes : List ℕ} {which : Which} {strictness : Strictness} → Answers bytes which strictness (Err Desk) → ⊥
never_desk {bytes} (is_refused e) = (own_under bytes 0 0 0 Desk e).1 refl

-- "A stage that the record lacks has no boundaries": no anchors, no boundaries
pub lacking_stage : (bytes : List ℕ) → refusal_of bytes ≡ none → (phrase_of bytes).added.anchors ≡ [] → (strictness : Strictness)
    → Answers bytes Count strictness (Ok None)
lacking_stage bytes accepted lacking strictness =
    no_boundary accepted (length_none (phrase_of bytes).added.boundaries ((fit laid).nothing_added (ap length lacking)))
  where
    laid : Laid bytes (layout_of bytes)
    laid = record { accepted = accepted; layout = refl }
