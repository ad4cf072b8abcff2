-- The words at each rank of an accepted call's output: those of the entry of one of the record's candidates, and what stands behind them.
use Prim.Native.Nat.{ℕ, ◌*◌, ◌<◌}
use mathlib.Core.List.{List, [], ◌++◌}
use mathlib.Core.Option.{none}
use mathlib.Core.Path.{◌≡◌, refl, sym, ap, subst, ◌∙◌}
use lib.ListN.{length, drop, length-map}
use lib.Ieee.{Float}
use Rattle.std.specs.Prelude.{Result}
use Rattle.limits.specs.declared.refusal.Refusal.{Refusal}
use Rattle.laws.specs.Inner.Each.{Each}
use Rattle.laws.proofs.Each.{each_map, each_from, each_at}
use Rattle.limits.specs.Sizes.{entry_words}
use Rattle.record.specs.Layout.{limits_of}
use Rattle.record.specs.Refusals.{refusal_of, refusal_with}
use Rattle.record.specs.Meaning.{phrase_of}
use Rattle.record.specs.Inner.Reading.{candidate_of}
use Rattle.entries.specs.Entry.{Entry}
use Rattle.entries.specs.Words.{words_of, all_words}
use Rattle.entries.specs.Ranking.{ranked}
use Rattle.entries.specs.Inner.Placing.{Fit}
use Rattle.entries.proofs.FullSum.{words_at}
use Rattle.entries.proofs.Ranks.{each_ranked}
use Rattle.entries.proofs.RankedLength.{length_ranked}
use Rattle.decoding.specs.EntryOf.{entry_of, entries_of}
use Rattle.decoding.specs.Contract.{Decodes}
use Rattle.decoding.proofs.Calls.{own_rules_law}
use Rattle.decoding.proofs.Demands.{entries_fit}

-- words that begin with a candidate's entry
pub record AtRank (bytes words : List ℕ) : Type 0 where
  pub number : ℕ
  pub inside : number < length (phrase_of bytes).candidates
  pub later : List ℕ
  pub begins : words ≡ words_of (limits_of bytes).units (entry_of (phrase_of bytes) (candidate_of (phrase_of bytes) number)) ++ later

module _ (bytes : List ℕ) (accepted : refusal_of bytes ≡ none) where
  record OfCandidate (entry : Entry) : Type 0 where
    number : ℕ
    inside : number < length (phrase_of bytes).candidates
    same : entry ≡ entry_of (phrase_of bytes) (candidate_of (phrase_of bytes) number)

  each_of_candidate : Each OfCandidate (ranked (entries_of (phrase_of bytes)))
  each_of_candidate =
      each_ranked OfCandidate
      (each_map (entry_of (phrase_of bytes))
      (each_from (record { id = 0; columns = [] }) (phrase_of bytes).candidates
      (λ i inside. record { number = i; inside = inside; same = refl })))

  among_words : (rank : ℕ) → rank < length (phrase_of bytes).candidates → (rest : List ℕ)
      → AtRank bytes
      (drop (rank * entry_words (limits_of bytes).units) (all_words (limits_of bytes).units (ranked (entries_of (phrase_of bytes))) ++ rest))
  among_words rank inside rest =
      let phrase = phrase_of bytes in
      let most = (limits_of bytes).units in
      let there : rank < length (ranked (entries_of phrase)) =
      subst (λ (n : ℕ). rank < n) (sym (length_ranked (entries_of phrase) ∙ length-map phrase.candidates (entry_of phrase))) inside in
      let other : Entry = entry_of phrase (candidate_of phrase 0) in
      let from = words_at most other (each_ranked (Fit most) (entries_fit bytes accepted)) rank there rest in
      let entry = each_at other each_of_candidate rank there in
      record {
        number = entry.number;
        inside = entry.inside;
        later = from.0;
        begins = from.1 ∙ ap (λ (e : Entry). words_of most e ++ from.0) entry.same;
      }

-- what every decoder that meets the contract leaves in the output
pub at_rank :
    {bytes : List ℕ} {best : List Float} {back out : List ℕ} {answer : Result ℕ Refusal} {best' : List Float} {back' out' : List ℕ} →
    Decodes bytes best back out answer best' back' out' → refusal_with bytes (length best) (length back) (length out) ≡ none →
    (rank : ℕ) → rank < length (phrase_of bytes).candidates →
    AtRank bytes (drop (rank * entry_words (limits_of bytes).units) out')
at_rank {bytes} {best} {back} {out} decodes accepted rank inside =
    subst (λ (words : List ℕ). AtRank bytes (drop (rank * entry_words (limits_of bytes).units) words)) (sym (decodes.accepts accepted).words)
    (among_words bytes (own_rules_law bytes (length best) (length back) (length out) accepted) rank inside _)
