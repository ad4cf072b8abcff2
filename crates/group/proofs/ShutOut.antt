-- Wrong decoders that the contract shuts out, from document 01's "What a reviewer will try", each on the sample phrase. That no call has
-- two outcomes is in OneOutcome.antt of `decoding`.
use Prim.Native.Nat.{ℕ, ◌<◌}
use mathlib.Core.List.{List}
use mathlib.Core.Bool.{false}
use mathlib.Core.Path.{◌≡◌, refl, sym, ap, subst, ◌∙◌}
use borrow.Author.Tests.{eqb-false}
use lib.Dec.{lit≤}
use lib.ListN.{length, get_or, replicate}
use lib.Ieee.{Float}
use Rattle.std.specs.Prelude.{Result, Err}
use Rattle.limits.specs.declared.refusal.Refusal.{Refusal}
use Rattle.frames.specs.Outcome.{Outcome, accepted, refused}
use Rattle.phrase.specs.Phrase.{Candidate}
use Rattle.record.specs.Layout.{limits_of}
use Rattle.record.specs.Conditions.{short_desk}
use Rattle.record.specs.Meaning.{phrase_of}
use Rattle.sample.specs.Sample.{sample}
use Rattle.limits.specs.declared.refusal.Refusal.TheVariants.{Track}
use Rattle.sample.proofs.SamplePhrase as sample-record
use Rattle.entries.specs.Entry.{Entry}
use Rattle.decoding.specs.EntryOf.{entry_of}
use Rattle.decoding.specs.Contract.{Meets, Decodes}
use Rattle.decoding.proofs.Bounded.{phrase_fit}
use Rattle.decoding.proofs.Demands.{same_pass}
use Rattle.group.proofs.Group.{worked_words, sample_candidates_law, sample_decoded}

abbrev figure : Outcome ℕ → ℕ
figure (accepted n) = 0
figure (refused n) = n

-- "A decoder that says 5 to everything"
says_5 :
    (best : List Float) (back out : List ℕ) {best' : List Float} {back' out' : List ℕ} →
    short_desk (limits_of sample) 2 (length best) (length back) (length out) ≡ false →
    Decodes sample best back out (Err Track) best' back' out' → ⊥
says_5 best back out long decodes = eqb-false 5 0 refl (ap figure (sample_decoded best back out long decodes).0)

-- "One that returns success over untouched words"
untouched :
    (best : List Float) (back : List ℕ) {answer : Result ℕ Refusal} {best' : List Float} {back' : List ℕ} →
    short_desk (limits_of sample) 2 (length best) (length back) 108 ≡ false →
    Decodes sample best back (replicate 108 0) answer best' back' (replicate 108 0) → ⊥
untouched best back long decodes =
    eqb-false 0 3 refl (ap (λ (out : List ℕ). get_or out 0 0) (sample_decoded best back (replicate 108 0) long decodes).1)

-- "One that writes "none" before searching", and "one that searches for the first candidate and echoes it": by demand 3 alone, the entry
-- of the sample's second candidate names pass 0, while the first has no path.
abbrev second : Candidate → Candidate
second other = get_or (phrase_of sample).candidates 1 other

second_pass : (other : Candidate) → (entry_of (phrase_of sample) (second other)).pass ≡ 0
unfolding worked_words sample
second_pass other = refl

second_entry : (other : Candidate) {entry : Entry} → Meets (phrase_of sample) (second other) entry → entry.pass ≡ 0
second_entry other meets =
    let there = subst (λ (n : ℕ). 1 < n) (sym sample_candidates_law) (lit≤ tt) in
    same_pass sample sample-record.accepted ((phrase_fit sample sample-record.accepted).candidates 1 other there) meets ∙ second_pass other
