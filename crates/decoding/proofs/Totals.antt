-- The total of every entry is the sum of the path that is found, or the product that stands in for it where there is none; and it is finite.
-- So the 64 bits that the words show are those of a number.
use Prim.Native.Nat.{ℕ, ◌*◌, ◌≤◌}
use mathlib.Core.Bool.{false}
use mathlib.Core.List.{List}
use mathlib.Core.Option.{none}
use mathlib.Core.Path.{◌≡◌, refl, sym, subst}
use native.Mathlib.Nat.{le_trans, mul-le-mul_right}
use native.Mathlib.Omega.{arith}
use lib.Count.{count_trailing_zeros}
use lib.Dec.{T}
use lib.ListN.{length}
use lib.Ieee.{binary32, binary64, round, odd, size, span, climb, units}
use lib.Ieee.Scale.{finite}
use Rattle.ieee.specs.Inner.Value.{Real}
use Rattle.ieee.proofs.Magnitude.{product_real, whole_within, real_widens}
use Rattle.limits.specs.Capacity.{most_units}
use Rattle.limits.specs.Common.{largest_figure}
use Rattle.limits.proofs.Editions.{moderate}
use Rattle.phrase.specs.Phrase.{Phrase, Candidate}
use Rattle.paths.specs.Demand.{Answer, Demanded, a_path, no_path, no_nucleus}
use Rattle.paths.proofs.Answers.{found_real}
use Rattle.record.specs.Layout.{trailer_of, layout_of, limits_of}
use Rattle.record.specs.Refusals.{refusal_of}
use Rattle.record.specs.Meaning.{phrase_of}
use Rattle.record.specs.Inner.Accepted.{CandidateFit}
use Rattle.decoding.specs.EntryOf.{missed_total, total_of}
use Rattle.decoding.specs.Theory.FullSum.{sum_for}
use Rattle.decoding.proofs.Bounded.{room, phrase_fit, bounded}

-- the total of an answer that is as demanded is its sum
pub total_is : {phrase : Phrase} {columns : List ℕ} {answer : Answer} → Demanded phrase columns answer
    → total_of phrase (length columns) answer ≡ sum_for phrase columns answer
total_is (a_path f) = f.summed
total_is (no_path nucleus none-admitted) = refl
total_is (no_nucleus lacking) = refl

-- the largest product of a count of units and a score is no infinity in an f32
largest_product : T (finite (round binary32 false (most_units * largest_figure) 1))
unfolding round odd size span climb units count_trailing_zeros
largest_product = tt

module _ (bytes : List ℕ) (accepted : refusal_of bytes ≡ none) where
  pub missed_real : (k : ℕ) → k ≤ (limits_of bytes).units → Real binary64 (missed_total (phrase_of bytes) k)
  missed_real k few =
      let capacity : k ≤ most_units = le_trans few (moderate (trailer_of bytes).edition).units in
      real_widens
      (product_real (whole_within binary32 k (omega (arith, capacity))) (phrase_fit bytes accepted).unvoiced (most_units * largest_figure)
      (mul-le-mul_right largest_figure capacity) largest_product)

  -- of an answer that is as demanded
  module _ {c : Candidate} (fits : CandidateFit (limits_of bytes).units (layout_of bytes).scores.count c) where
    pub sum_real : {answer : Answer} → Demanded (phrase_of bytes) c.columns answer
        → Real binary64 (sum_for (phrase_of bytes) c.columns answer)
    sum_real (a_path f) = found_real (room (moderate (trailer_of bytes).edition)) (bounded bytes accepted c fits) f
    sum_real (no_path nucleus none-admitted) = missed_real (length c.columns) fits.few_units
    sum_real (no_nucleus lacking) = missed_real (length c.columns) fits.few_units

    pub total_real : {answer : Answer} → Demanded (phrase_of bytes) c.columns answer
        → Real binary64 (total_of (phrase_of bytes) (length c.columns) answer)
    total_real demanded = subst (Real binary64) (sym (total_is demanded)) (sum_real demanded)
