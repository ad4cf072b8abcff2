-- The most units of document 01's sample phrase: nucleus 7, boundaries 4 and 14, no added stage.
use Prim.Native.Nat.{◌<◌}
use native.Mathlib.Omega.{arith}
use mathlib.Core.Path.{◌≡◌, refl, ap, subst}
use lib.Dec.{T, lit≤}
use lib.ListN.{length, take}
use Rattle.std.specs.Prelude.{Some, None, Ok, Err}
use Rattle.limits.specs.Edition.{numbers_of}
use Rattle.record.specs.Layout.{limits_of}
use Rattle.record.specs.Meaning.{phrase_of}
use Rattle.record.specs.declared.read.Which.TheVariants.{Nuclei, Count}
use Rattle.limits.specs.declared.refusal.Refusal.TheVariants.{Stub}
use Rattle.sample.specs.Sample.{sample}
use Rattle.sample.proofs.SamplePhrase as sample-record
use Rattle.paths.specs.declared.passes.Strictness.{Strictness}
use Rattle.paths.specs.declared.passes.Strictness.TheVariants.{Strict, Relaxed}
use Rattle.paths.specs.Problem.{Problem}
use Rattle.paths.specs.Anchors.{kept_in}
use Rattle.paths.specs.Units.{admits_unit}
use Rattle.paths.specs.Path.{begin, unit, count, end, begins, units, HasPath}
use Rattle.paths.proofs.Counts.{fewer_than_boundaries, bare_path}
use Rattle.most_units.specs.Most.{paths_of, Most}
use Rattle.most_units.specs.Answers.{Answers, is_refused, is_counted}
use Rattle.most_units.proofs.OneAnswer.{lacking_stage}

abbrev problem : Strictness → Problem
problem strictness = paths_of (phrase_of sample) (phrase_of sample).nuclei strictness

two : length (phrase_of sample).nuclei.boundaries ≡ 2
two = ap length sample-record.boundaries

-- the unit 4..14 holds the nucleus, so it is admitted either way
admitted : (strictness : Strictness) → T ((problem strictness).unit_ok 0 1)
unfolding kept_in admits_unit
admitted Strict = rw (sample-record.mask, sample-record.nuclei, sample-record.boundaries) tt
admitted Relaxed = rw (sample-record.mask, sample-record.nuclei, sample-record.boundaries) tt

sample_most : (strictness : Strictness) → Most (problem strictness) (limits_of sample).units 1
unfolding count end numbers_of
sample_most strictness = record {
  there =
      (unit (begin 0) 1, units {p = begin 0} {j = 1} (begins {j = 0} some) (lit≤ tt) (omega (arith, two)) (admitted strictness), refl);
  largest = λ below path a. omega (arith, fewer_than_boundaries (problem strictness) a, two);
  smaller = λ k h. let none : 0 ≡ k = omega arith in subst (HasPath (problem strictness)) none (bare_path (problem strictness) some);
  capped = lit≤ tt;
}
  where
    some : 0 < length (phrase_of sample).nuclei.boundaries
    some = omega (arith, two)

-- one unit fits, strict or relaxed
sample_one : (strictness : Strictness) → Answers sample Nuclei strictness (Ok (Some 1))
sample_one strictness = is_counted sample-record.accepted (sample_most strictness)

-- the record lacks the added stage
sample_lacks : (strictness : Strictness) → Answers sample Count strictness (Ok None)
sample_lacks strictness = lacking_stage sample sample-record.accepted sample-record.anchors strictness

-- its first 63 bytes are refused
sample_cut : (strictness : Strictness) → Answers (take 63 sample) Nuclei strictness (Err Stub)
sample_cut strictness = is_refused sample-record.cut
