-- The most units of a stage, by the words that are laid of it. Assumes nothing.
use Prim.Native.Nat.{ℕ, ◌+◌, ◌<◌}
use mathlib.Core.List.{List}
use mathlib.Core.Path.{◌≡◌, refl, ap, ◌∙◌}
use native.Mathlib.Omega.{arith}
use lib.ListN.{length, get_or}
use Rattle.laws.proofs.Listed.{get_d_listed}
use Rattle.phrase.specs.Phrase.{Phrase, Stage}
use Rattle.paths.specs.declared.passes.Strictness.{Strictness}
use Rattle.paths.specs.declared.passes.Strictness.TheVariants.{Strict, Relaxed}
use Rattle.paths.specs.Anchors.{Anchor, kept}
use Rattle.paths.specs.Inner.Order.{Increasing}
use Rattle.paths.specs.Inner.Ranges.{low_origin, origins_end, first_reached}
use Rattle.paths.proofs.Ranges.{origins}
use Rattle.limits.specs.Capacity.{unit_counts}
use Rattle.stages.specs.Parts.{Searched}
use Rattle.stages.specs.Tables.{entry_by}
use Rattle.stages.specs.declared.stage_tables.StageWords.{StageWords}
use Rattle.most_units.specs.Most.{paths_of, Most}
use Rattle.most_units.specs.Inner.Last.{LastReached}
use Rattle.most_units.proofs.Largest.{last_most}

-- what is read of the words is what each count of units reaches
module _ {anchors : List Anchor} {bounds : List ℕ} {words : StageWords} (searched : Searched anchors bounds words) where
  abbrev first : Strictness → ℕ → ℕ
  first strictness = first_reached (low_origin anchors bounds) (origins_end strictness anchors bounds) (length bounds)

  pub reached_is : (strictness : Strictness) (units : ℕ) → units < unit_counts → entry_by words.since strictness units ≡ first strictness units
  reached_is Strict units h =
      ap (λ (l : List ℕ). get_or l units 0) searched.strict ∙ get_d_listed (first Strict) unit_counts units 0 h
  reached_is Relaxed units h =
      ap (λ (l : List ℕ). get_or l units 0) searched.relaxed ∙ get_d_listed (first Relaxed) unit_counts units 0 h

-- with no unit every boundary is reached
pub starts_first : (anchors : List Anchor) (bounds : List ℕ) (strictness : Strictness)
    → first_reached (low_origin anchors bounds) (origins_end strictness anchors bounds) (length bounds) 0 ≡ 0
unfolding first_reached
starts_first anchors bounds strictness = refl

module _ (phrase : Phrase) (stage : Stage) (up : Increasing stage.boundaries) (strictness : Strictness) where
  pub words_most :
      {words : StageWords} {cap units : ℕ} → Searched (kept phrase stage) stage.boundaries words → cap < unit_counts →
      LastReached (entry_by words.since strictness) (length stage.boundaries) cap units → Most (paths_of phrase stage strictness) cap units
  words_most {units = units} searched room last =
      last_most (paths_of phrase stage strictness) (origins (kept phrase stage) stage.boundaries up strictness)
      (record {
        capped = last.capped;
        reaches = omega (arith, last.reaches, reached_is searched strictness units (omega (arith, last.capped)));
        ends = λ below. omega (arith, last.ends below, reached_is searched strictness (units + 1) (omega arith));
      })
