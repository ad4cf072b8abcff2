-- What decoding returns (document 02, Ask 4): for every candidate of every accepted record, the sum shown is near the exact sum of the path
-- returned, and "no path that the pass admits for the candidate's unit count has an exact sum above that of the returned path by more than
-- 2^-20".
use Prim.Native.Nat.{ℕ, ◌*◌, ◌<◌}
use mathlib.Core.List.{List}
use mathlib.Core.Option.{none}
use mathlib.Core.Path.{◌≡◌, sym, subst}
use lib.Dec.{lit≤}
use lib.ListN.{length, drop}
use lib.Ieee.{Float}
use Rattle.std.specs.Prelude.{Result}
use Rattle.limits.specs.declared.refusal.Refusal.{Refusal}
use Rattle.limits.specs.Sizes.{entry_words}
use Rattle.paths.specs.declared.passes.Pass.{Pass}
use Rattle.paths.specs.declared.passes.Pass.TheVariants.{NucleiStrict, CountStrict, CountRelaxed, NucleiRelaxed}
use Rattle.paths.specs.declared.passes.Strictness.TheVariants.{Strict, Relaxed}
use Rattle.paths.specs.Path.{Path, Admitted}
use Rattle.paths.specs.Passes.{pass_stage, pass_strictness, pass_problem}
use Rattle.paths.specs.Demand.{Answer, Demanded, a_path, no_path, no_nucleus}
use Rattle.paths.specs.Search.{chosen}
use Rattle.record.specs.Layout.{trailer_of, layout_of, limits_of}
use Rattle.record.specs.Meaning.{phrase_of}
use Rattle.record.specs.Refusals.{refusal_of, refusal_with}
use Rattle.record.specs.Inner.Reading.{candidate_of}
use Rattle.record.specs.declared.read.Which.TheVariants.{Nuclei, Count}
use Rattle.entries.specs.Entry.{Entry}
use Rattle.decoding.specs.Contract.{Meets, Decodes}
use Rattle.decoding.proofs.Bounded.{phrase_fit}
use Rattle.decoding.proofs.Calls.{own_rules_law}
use Rattle.decoding.proofs.Demands.{answered}
use Rattle.decoding.proofs.AtRank.{at_rank}
use Rattle.distance.specs.Distance.{sum_digits, path_digits, ColumnsBelow, NearExact, NearAnswer, near_path, none_near, unvoiced_near, ReturnsNear}
use Rattle.distance.proofs.Powers.{near_exact, not_much_above}
use Rattle.distance.proofs.Editions.{sharp}
use Rattle.distance.proofs.Records.{SumClose, path_close}

module _ (bytes : List ℕ) (accepted : refusal_of bytes ≡ none) where
  module _ (columns : List ℕ) (below : ColumnsBelow (layout_of bytes).scores.count columns) where
    -- a pass searches a stage with a strictness
    pass_close : (pass : Pass) {path : Path} → Admitted (pass_problem (phrase_of bytes) pass columns) path
        → SumClose bytes accepted columns below (pass_stage (phrase_of bytes) pass) (pass_strictness pass) path
    pass_close NucleiStrict admitted = path_close bytes accepted columns below Nuclei Strict admitted
    pass_close CountStrict admitted = path_close bytes accepted columns below Count Strict admitted
    pass_close CountRelaxed admitted = path_close bytes accepted columns below Count Relaxed admitted
    pass_close NucleiRelaxed admitted = path_close bytes accepted columns below Nuclei Relaxed admitted

    -- every answer that is as demanded, whichever of several best paths it has
    pub demanded_near : {answer : Answer} → Demanded (phrase_of bytes) columns answer → NearAnswer (phrase_of bytes) columns answer
    demanded_near (a_path {pass = pass} {path = path} f) =
        let close = pass_close pass f.best.admitted in
        let enough = (sharp (trailer_of bytes).edition).enough in
        near_path
        (subst (NearExact (phrase_of bytes) (pass_stage (phrase_of bytes) pass) columns path) (sym f.summed)
        (record { is_finite = close.within.real.is_finite; near = near_exact sum_digits (lit≤ tt) close enough }))
        (λ other admitted counted.
        not_much_above path_digits (lit≤ tt) (pass_close pass admitted) close (f.best.largest other admitted counted) enough)
    demanded_near (no_path nucleus none-admitted) = none_near
    demanded_near (no_nucleus lacking) = unvoiced_near

  -- of a candidate's columns
  candidate_near : (number : ℕ) → number < length (phrase_of bytes).candidates → {answer : Answer}
      → Demanded (phrase_of bytes) (candidate_of (phrase_of bytes) number).columns answer
      → NearAnswer (phrase_of bytes) (candidate_of (phrase_of bytes) number).columns answer
  candidate_near number inside demanded =
      demanded_near (candidate_of (phrase_of bytes) number).columns ((phrase_fit bytes accepted).candidates number _ inside).below demanded

  -- Demand 3 leaves open which of several paths with the largest f64 sum is returned; this holds of each.
  pub met_near : (number : ℕ) → number < length (phrase_of bytes).candidates → {entry : Entry}
      → (meets : Meets (phrase_of bytes) (candidate_of (phrase_of bytes) number) entry)
      → NearAnswer (phrase_of bytes) (candidate_of (phrase_of bytes) number).columns meets.answer
  met_near number inside meets = candidate_near number inside meets.demanded

  -- and so of the one that the cell rule keeps, for each candidate
  pub chosen_near : (number : ℕ) → number < length (phrase_of bytes).candidates
      → NearAnswer (phrase_of bytes) (candidate_of (phrase_of bytes) number).columns
      (chosen (phrase_of bytes) (candidate_of (phrase_of bytes) number).columns)
  chosen_near number inside =
      candidate_near number inside (answered bytes accepted ((phrase_fit bytes accepted).candidates number _ inside))

-- What every decoder that meets the contract leaves in the output of an accepted call: at each rank a candidate's entry, as near as that.
pub every_entry :
    {bytes : List ℕ} {best : List Float} {back out : List ℕ} {answer : Result ℕ Refusal} {best' : List Float} {back' out' : List ℕ} →
    Decodes bytes best back out answer best' back' out' → refusal_with bytes (length best) (length back) (length out) ≡ none →
    (rank : ℕ) → rank < length (phrase_of bytes).candidates →
    ReturnsNear (limits_of bytes).units (phrase_of bytes) (drop (rank * entry_words (limits_of bytes).units) out')
every_entry {bytes} {best} {back} {out} decodes accepted rank inside =
    let at = at_rank decodes accepted rank inside in
    record {
      number = at.number;
      inside = at.inside;
      later = at.later;
      begins = at.begins;
      near = chosen_near bytes (own_rules_law bytes (length best) (length back) (length out) accepted) at.number at.inside;
    }
