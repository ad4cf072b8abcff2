-- The exact sum of document 01's sample phrase, whose f64 sum rounds nothing; and what is said of every accepted record said of it.
use Prim.Native.Nat.{◌*◌, ◌^◌}
use mathlib.Core.List.{[], ◌∷◌}
use mathlib.Core.Path.{◌≡◌, refl, ap}
use native.Mathlib.Omega.{arith}
use lib.IntN.{pos, neg_ℤ}
use lib.ListN.{length}
use Rattle.record.specs.Meaning.{phrase_of}
use Rattle.record.specs.Inner.Reading.{candidate_of}
use Rattle.record.proofs.Reading.{nuclei_first}
use Rattle.sample.specs.Sample.{sample}
use Rattle.sample.proofs.SamplePhrase as sample-record
use Rattle.paths.specs.Anchors.{kept_in}
use Rattle.paths.specs.Path.{begin, unit, end}
use Rattle.paths.specs.Search.{chosen}
use Rattle.distance.specs.ExactSum.{exact_sum}
use Rattle.distance.specs.ExactStage.{exact_cost, exact_unit, exact_of}
use Rattle.distance.specs.Distance.{NearAnswer}
use Rattle.distance.proofs.Returned.{chosen_near}

-- -(4 * 0.5) + (3 - 0.25) - 6 * 0.5 = -2.25, the unit 4..14
sample_exact : exact_sum (exact_of (phrase_of sample) (phrase_of sample).nuclei (0 ∷ [])) (unit (begin 0) 1) ≡ neg_ℤ (pos (9 * 2 ^ 1073))
unfolding exact_sum exact_cost exact_unit kept_in end
sample_exact =
    rw (
      sample-record.mask,
      sample-record.nuclei,
      nuclei_first sample,
      sample-record.boundaries,
      sample-record.costs,
      sample-record.score,
      sample-record.duration_ten,
    ) refl

-- the answer for its second candidate, which has a path
sample_near : NearAnswer (phrase_of sample) (candidate_of (phrase_of sample) 1).columns (chosen (phrase_of sample) (candidate_of (phrase_of sample) 1).columns)
sample_near = chosen_near sample sample-record.accepted 1 (omega (arith, ap length sample-record.candidates))
