-- "After the unit count come the low and high halves of the unclamped f64 sum's bits" (document 02, Ask 2): put together, they are the bits of
-- the sum that demand 3 speaks of, in every entry of every accepted call.
use Prim.Native.Nat.{ℕ, ◌*◌, ◌<◌}
use mathlib.Core.List.{List, ◌++◌}
use mathlib.Core.Option.{none}
use mathlib.Core.Path.{◌≡◌, refl, sym, ap, subst, ◌∙◌}
use lib.ListN.{length, drop}
use lib.Ieee.{Float, binary32, binary64, of_bits, to_bits}
use lib.Ieee.Bits.{of_bits-to_bits}
use Rattle.std.specs.Prelude.{Result}
use Rattle.limits.specs.declared.refusal.Refusal.{Refusal}
use Rattle.ieee.specs.Convert.{clamped_log}
use Rattle.ieee.specs.Inner.Value.{Real}
use Rattle.limits.specs.Sizes.{entry_words}
use Rattle.phrase.specs.Phrase.{Phrase, Candidate}
use Rattle.paths.specs.declared.passes.Pass.{Pass}
use Rattle.paths.specs.Path.{Path, sum}
use Rattle.paths.specs.Passes.{pass_problem}
use Rattle.paths.specs.Demand.{Answer, found, Demanded}
use Rattle.paths.specs.Search.{chosen}
use Rattle.record.specs.Layout.{layout_of, limits_of}
use Rattle.record.specs.Refusals.{refusal_of, refusal_with}
use Rattle.record.specs.Meaning.{phrase_of}
use Rattle.record.specs.Inner.Accepted.{CandidateFit}
use Rattle.record.specs.Inner.Reading.{candidate_of}
use Rattle.entries.specs.Words.{words_of}
use Rattle.entries.specs.Theory.FullSum.{sum_in}
use Rattle.entries.proofs.FullSum.{sum_in_law}
use Rattle.decoding.specs.EntryOf.{entry_for, entry_by}
use Rattle.decoding.specs.Contract.{Decodes}
use Rattle.decoding.specs.Theory.FullSum.{sum_for, ShowsSum}
use Rattle.decoding.proofs.Bounded.{phrase_fit}
use Rattle.decoding.proofs.Calls.{own_rules_law}
use Rattle.decoding.proofs.Demands.{answered}
use Rattle.decoding.proofs.AtRank.{AtRank, at_rank}
use Rattle.decoding.proofs.Totals.{total_is, sum_real}

-- ---- one entry

module _ (phrase : Phrase) (candidate : Candidate) (most : ℕ) where
  -- whatever stands behind the entry's words
  pub shown_bits : {answer : Answer} → Demanded phrase candidate.columns answer → (rest : List ℕ)
      → sum_in (words_of most (entry_for phrase candidate answer) ++ rest) ≡ to_bits binary64 (sum_for phrase candidate.columns answer)
  unfolding entry_for
  shown_bits {answer} demanded rest =
      sum_in_law most (entry_for phrase candidate answer) rest ∙ ap (to_bits binary64) (total_is demanded)

  -- with a path: its left-to-right sum, which `Demanded` says is the largest
  pub path_bits : {pass : Pass} {path : Path} {total : Float} → Demanded phrase candidate.columns (found pass path total)
      → (rest : List ℕ)
      → sum_in (words_of most (entry_for phrase candidate (found pass path total)) ++ rest)
      ≡ to_bits binary64 (sum (pass_problem phrase pass candidate.columns) path)
  path_bits demanded rest = shown_bits demanded rest

-- ---- every entry of every accepted call

shows : (bytes : List ℕ) → refusal_of bytes ≡ none → {words : List ℕ} → AtRank bytes words → ShowsSum (phrase_of bytes) words
unfolding entry_by entry_for words_of
shows bytes accepted at =
    let phrase = phrase_of bytes in
    let columns = (candidate_of phrase at.number).columns in
    let fits : CandidateFit (limits_of bytes).units (layout_of bytes).scores.count (candidate_of phrase at.number) =
    (phrase_fit bytes accepted).candidates at.number _ at.inside in
    let demanded : Demanded phrase columns (chosen phrase columns) = answered bytes accepted fits in
    let real : Real binary64 (sum_for phrase columns (chosen phrase columns)) = sum_real bytes accepted fits demanded in
    let bits = shown_bits phrase (candidate_of phrase at.number) (limits_of bytes).units demanded at.later in
    subst (ShowsSum phrase) (sym at.begins)
    (record {
      number = at.number;
      below = at.inside;
      answer = chosen phrase columns;
      demanded = demanded;
      id = refl;
      pass = refl;
      bits = bits;
      is_finite = real.is_finite;
      value = ap (of_bits binary64) bits ∙ of_bits-to_bits binary64 _ real.is_held;
      score = ap (λ (x : Float). to_bits binary32 (clamped_log x)) (total_is demanded);
    })

-- What every decoder that meets the contract leaves in the output: at each rank an entry that shows its sum.
pub every_sum :
    {bytes : List ℕ} {best : List Float} {back out : List ℕ} {answer : Result ℕ Refusal} {best' : List Float} {back' out' : List ℕ} →
    Decodes bytes best back out answer best' back' out' → refusal_with bytes (length best) (length back) (length out) ≡ none →
    (rank : ℕ) → rank < length (phrase_of bytes).candidates →
    ShowsSum (phrase_of bytes) (drop (rank * entry_words (limits_of bytes).units) out')
every_sum {bytes} {best} {back} {out} decodes accepted rank below =
    shows bytes (own_rules_law bytes (length best) (length back) (length out) accepted) (at_rank decodes accepted rank below)
