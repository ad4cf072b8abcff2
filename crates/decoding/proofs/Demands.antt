-- Demand 3 is met for each candidate of every accepted record, whatever scores and costs it lends; its entries can be ranked and have room
-- for their units, and their ranking is the one that document 01 asks for.
use Prim.Native.Nat.{ℕ, zero, suc, ◌*◌, ◌≤◌, ◌<◌}
use mathlib.Core.List.{List, [], ◌∷◌, map}
use mathlib.Core.Option.{none}
use mathlib.Core.Path.{◌≡◌, refl, sym, ap, subst, ◌∙◌}
use native.Mathlib.Omega.{arith}
use lib.ListN.{length, get_or, length-map}
use Rattle.ieee.proofs.Value.{real_comparable}
use Rattle.ieee.proofs.NarrowClamp.{clamped_log_within}
use Rattle.phrase.specs.Phrase.{Candidate}
use Rattle.paths.specs.Demand.{Answer, answer_number, Demanded}
use Rattle.paths.specs.Search.{chosen}
use Rattle.paths.specs.Theory.Bounded.{Room}
use Rattle.limits.proofs.Editions.{moderate}
use Rattle.paths.proofs.Demanded.{Alike, paths_alike, none_alike, unvoiced_alike}
use Rattle.paths.proofs.Answers.{chosen_demanded, only_answer}
use Rattle.limits.specs.Sizes.{entry_words}
use Rattle.record.specs.Layout.{trailer_of, layout_of, limits_of}
use Rattle.record.specs.Refusals.{refusal_of}
use Rattle.record.specs.Meaning.{phrase_of}
use Rattle.record.specs.Inner.Accepted.{CandidateFit}
use Rattle.entries.specs.Entry.{Entry}
use Rattle.entries.specs.Words.{all_words}
use Rattle.laws.specs.Inner.Each.{Each, each_none, each_more}
use Rattle.laws.proofs.Each.{each_follows, each_map}
use Rattle.entries.specs.Inner.Placing.{Fit}
use Rattle.entries.specs.Ranking.{ranked, Ranked}
use Rattle.entries.proofs.EntryWords.{length_all_words}
use Rattle.entries.proofs.Ranks.{each_ranked, ranked_is}
use Rattle.entries.proofs.RankedLength.{length_ranked}
use Rattle.decoding.specs.EntryOf.{entry_for, entry_by, entry_of, entries_of}
use Rattle.decoding.specs.Theory.Ranges.{ranges_of}
use Rattle.decoding.specs.Contract.{Meets, MeetsEach, all_met, each_met}
use Rattle.decoding.proofs.Bounded.{room, phrase_fit, bounded}
use Rattle.decoding.proofs.Units.{length_units}

-- what holds of no candidates, and of one more that is as P says, holds of a list of such
each_candidate :
    {P : Candidate → Type 0} {Q : List Candidate → Type 0} →
    Q [] → ((c : Candidate) (cs : List Candidate) → P c → Q cs → Q (c ∷ cs)) →
    (cs : List Candidate) → ((i : ℕ) (other : Candidate) → i < length cs → P (get_or cs i other)) → Q cs
each_candidate no_more more [] fits = no_more
each_candidate {P = P} {Q = Q} no_more more (c ∷ cs) fits =
    more c cs (fits zero c (omega arith))
    (each_candidate {P = P} {Q = Q} no_more more cs (λ i other below. fits (suc i) other (omega arith)))

module _ (bytes : List ℕ) (accepted : refusal_of bytes ≡ none) where
  abbrev Fits : Candidate → Type 0
  Fits = CandidateFit (limits_of bytes).units (layout_of bytes).scores.count

  enough : Room (ranges_of (limits_of bytes))
  enough = room (moderate (trailer_of bytes).edition)

  pub answered : {c : Candidate} → Fits c → Demanded (phrase_of bytes) c.columns (chosen (phrase_of bytes) c.columns)
  answered {c} fits = chosen_demanded enough (bounded bytes accepted c fits)

  met : {c : Candidate} → Fits c → Meets (phrase_of bytes) c (entry_of (phrase_of bytes) c)
  unfolding entry_by
  met {c} fits = record { answer = chosen (phrase_of bytes) c.columns; demanded = answered fits; reported = refl }

  pub demands : MeetsEach (phrase_of bytes) (phrase_of bytes).candidates (entries_of (phrase_of bytes))
  demands =
      each_candidate {P = Fits} {Q = λ cs. MeetsEach (phrase_of bytes) cs (map (entry_of (phrase_of bytes)) cs)} all_met
      (λ c cs fits. each_met (met fits))
      (phrase_of bytes).candidates (phrase_fit bytes accepted).candidates

  -- an entry's llr is a binary32 value and no NaN, and its units are at most as many as an entry has room for
  pub entry_fits : {c : Candidate} → Fits c → Fit (limits_of bytes).units (entry_of (phrase_of bytes) c)
  unfolding entry_by entry_for
  entry_fits {c} fits =
      record {
        rankable = real_comparable (clamped_log_within _).real;
        few = subst (λ (n : ℕ). n ≤ (limits_of bytes).units) (sym (length_units (answered fits))) fits.few_units;
      }

  pub candidates_fit : Each (λ c. Fit (limits_of bytes).units (entry_of (phrase_of bytes) c)) (phrase_of bytes).candidates
  candidates_fit =
      each_candidate {P = Fits} {Q = Each (λ c. Fit (limits_of bytes).units (entry_of (phrase_of bytes) c))} each_none
      (λ c cs fits. each_more (entry_fits fits))
      (phrase_of bytes).candidates (phrase_fit bytes accepted).candidates

  pub entries_fit : Each (Fit (limits_of bytes).units) (entries_of (phrase_of bytes))
  entries_fit = each_map (entry_of (phrase_of bytes)) candidates_fit

  pub ranking : Ranked (entries_of (phrase_of bytes)) (ranked (entries_of (phrase_of bytes)))
  ranking = ranked_is (each_follows (λ entry fits. fits.rankable) entries_fit)

  -- "document 01's M × 52 to M × 54" (document 02, Ask 2): so many words the entries have
  pub words_long : length (all_words (limits_of bytes).units (ranked (entries_of (phrase_of bytes))))
      ≡ length (phrase_of bytes).candidates * entry_words (limits_of bytes).units
  words_long =
      length_all_words (limits_of bytes).units (each_ranked (Fit (limits_of bytes).units) entries_fit)
      ∙ ap (λ (n : ℕ). n * entry_words (limits_of bytes).units)
      (length_ranked (entries_of (phrase_of bytes)) ∙ length-map (phrase_of bytes).candidates (entry_of (phrase_of bytes)))

  -- Demand 3 leaves one answer, up to which of several best paths stands and the sign of a zero: so the pass is settled by it alone.
  pub same_pass : {c : Candidate} {entry : Entry} → Fits c → Meets (phrase_of bytes) c entry → entry.pass ≡ (entry_of (phrase_of bytes) c).pass
  unfolding entry_by entry_for
  same_pass {c} fits meets =
      ap (λ (e : Entry). e.pass) meets.reported ∙ number (only_answer enough (bounded bytes accepted c fits) meets.demanded)
    where
      number : {one two : Answer} → Alike one two → answer_number one ≡ answer_number two
      number (paths_alike equal) = refl
      number none_alike = refl
      number unvoiced_alike = refl
