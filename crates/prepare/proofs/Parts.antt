-- The parts of an accepted record's phrase are fit for the tables of a stage.
use Prim.Native.Nat.{ℕ, suc, ◌+◌, ◌≤◌, ◌<◌, ◌^◌}
use mathlib.Core.Path.{◌≡◌, ap, subst⁻¹}
use mathlib.Core.List.{List}
use native.Mathlib.Nat.{le_trans}
use native.Mathlib.Omega.{arith}
use lib.ListN.{length, get_or}
use Rattle.limits.specs.Capacity.{most_anchors, most_boundaries}
use Rattle.phrase.specs.Phrase.{Phrase}
use Rattle.stages.specs.Parts.{Fit, FitList}
use Rattle.record.specs.Meaning.{phrase_at, phrase_of, stage_of}
use Rattle.record.specs.Inner.Accepted.{Laid, Frames}
use Rattle.record.specs.declared.layout.Layout.{Layout}
use Rattle.record.specs.declared.read.Which.{Which}
use Rattle.record.specs.declared.read.Which.TheVariants.{Nuclei, Count}
use Rattle.limits.proofs.Editions.{moderate}
use Rattle.record.proofs.Accepted.{fit, meaning, counts, own_moderate}
use Rattle.prepare.specs.Sides.{first_row_in, Followed}

fit_list : {most : ℕ} (frames : List ℕ) → length frames ≤ most → Frames frames → FitList most frames
fit_list frames few fits = record { short = few; ascending = λ i below. fits.rising i (suc i) (omega arith) below }

module _ {bytes : List ℕ} {at : Layout} (h : Laid bytes at) where
  pub few_anchors_law : (which : Which) → length (stage_of which (phrase_of bytes)).anchors ≤ most_anchors
  few_anchors_law Nuclei = le_trans (fit h).nuclei.few_anchors (own_moderate bytes).nuclei
  few_anchors_law Count = le_trans (fit h).added.few_anchors (own_moderate bytes).anchors

  pub few_boundaries_law : (which : Which) → length (stage_of which (phrase_of bytes)).boundaries ≤ most_boundaries
  few_boundaries_law Nuclei = le_trans (fit h).nuclei.few_boundaries (own_moderate bytes).boundaries
  few_boundaries_law Count = le_trans (fit h).added.few_boundaries (own_moderate bytes).boundaries

  pub anchors_fit : (which : Which) → FitList most_anchors (stage_of which (phrase_of bytes)).anchors
  anchors_fit Nuclei = fit_list _ (few_anchors_law Nuclei) (fit h).nuclei.anchors
  anchors_fit Count = fit_list _ (few_anchors_law Count) (fit h).added.anchors

  pub boundaries_fit : (which : Which) → FitList most_boundaries (stage_of which (phrase_of bytes)).boundaries
  boundaries_fit Nuclei = fit_list _ (few_boundaries_law Nuclei) (fit h).nuclei.boundaries
  boundaries_fit Count = fit_list _ (few_boundaries_law Count) (fit h).added.boundaries

  pub anchors_followed : (which : Which) → Followed (stage_of which (phrase_of bytes)).anchors
  anchors_followed Nuclei i below = omega (arith, (fit h).nuclei.anchors.last i below)
  anchors_followed Count i below = omega (arith, (fit h).added.anchors.last i below)

  pub boundaries_small : (which : Which) (j : ℕ) → j < length (stage_of which (phrase_of bytes)).boundaries
      → get_or (stage_of which (phrase_of bytes)).boundaries j 0 < 2 ^ 32
  boundaries_small Nuclei j below = omega (arith, (fit h).nuclei.boundaries.last j below)
  boundaries_small Count j below = omega (arith, (fit h).added.boundaries.last j below)

  pub mask_fits : length (phrase_of bytes).mask < 2 ^ 32
  mask_fits = omega (arith, (fit h).few_frames, (own_moderate bytes).frames)

  pub first_row_is : (which : Which) → first_row_in at which ≡ (stage_of which (phrase_of bytes)).first_row
  unfolding phrase_at
  first_row_is Nuclei = ap (λ (p : Phrase). p.nuclei.first_row) (meaning h)
  first_row_is Count = ap (λ (p : Phrase). p.added.first_row) (meaning h)

  pub rows_fit : (which : Which) → (stage_of which (phrase_of bytes)).first_row + length (stage_of which (phrase_of bytes)).anchors < 2 ^ 32
  rows_fit Nuclei = omega (arith, first_row_is Nuclei, few_anchors_law Nuclei)
  rows_fit Count = omega (arith, first_row_is Count, few_anchors_law Count, (counts h).nuclei, (moderate at.edition).nuclei)

  pub few_nuclei : at.nuclei.count < 2 ^ 32
  few_nuclei = omega (arith, (counts h).nuclei, (moderate at.edition).nuclei)

-- The same of parts that are read.
module _ {bytes : List ℕ} {at : Layout} (h : Laid bytes at) (which : Which) where
  pub read_fit : {mask bounds : List ℕ} → mask ≡ (phrase_of bytes).mask → bounds ≡ (stage_of which (phrase_of bytes)).boundaries
      → Fit mask bounds
  read_fit masked bounded = record {
    framed = subst⁻¹ (λ (l : List ℕ). length l < 2 ^ 32) masked (mask_fits h);
    listed = subst⁻¹ (FitList most_boundaries) bounded (boundaries_fit h which);
  }

  pub read_small : {bounds : List ℕ} → bounds ≡ (stage_of which (phrase_of bytes)).boundaries
      → (j : ℕ) → j < length bounds → get_or bounds j 0 < 2 ^ 32
  read_small bounded = subst⁻¹ (λ (l : List ℕ). (j : ℕ) → j < length l → get_or l j 0 < 2 ^ 32) bounded (boundaries_small h which)

  module _ {anchors : List ℕ} (anchored : anchors ≡ (stage_of which (phrase_of bytes)).anchors) where
    pub read_listed : FitList most_anchors anchors
    read_listed = subst⁻¹ (FitList most_anchors) anchored (anchors_fit h which)

    pub read_followed : Followed anchors
    read_followed = subst⁻¹ (λ (l : List ℕ). Followed l) anchored (anchors_followed h which)

    pub read_rows_fit : {row : ℕ} → row ≡ (stage_of which (phrase_of bytes)).first_row → row + length anchors < 2 ^ 32
    read_rows_fit ranked = omega (arith, ranked, ap length anchored, rows_fit h which)
