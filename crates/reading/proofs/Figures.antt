-- Figures that are read as floats: they are in their ranges, so none is a NaN.
use Prim.Native.Nat.{ℕ, ◌+◌, ◌-◌, ◌*◌, ◌≤◌}
use mathlib.Core.Bool.{not}
use mathlib.Core.List.{List}
use mathlib.Core.Path.{◌≡◌, ap, subst⁻¹, ◌∙◌}
use lib.Dec.{T}
use lib.Ieee.{Float, binary32, binary64, of_bits, is_nan, nan_bits}
use Rattle.limits.specs.Common.{shortest_unit, longest_unit}
use Rattle.phrase.specs.Phrase.{Phrase}
use Rattle.phrase.specs.declared.costs.Costs.{Costs}
use Rattle.record.specs.Bytes.{u32_at, u64_at}
use Rattle.record.specs.Format.{insertion_at, unvoiced_at}
use Rattle.record.specs.Meaning.{duration_at, phrase_at, phrase_of, stage_of}
use Rattle.record.specs.Inner.Accepted.{Laid}
use Rattle.record.specs.Inner.Reading.{table_start, HasTable, IsFloat}
use Rattle.record.specs.declared.layout.Layout.{Layout}
use Rattle.record.specs.declared.read.Which.{Which}
use Rattle.record.proofs.Accepted.{meaning, fit_at}
use Rattle.record.proofs.Reading.{duration_is, duration_within, real_bits, within_real}

module _ {bytes : List ℕ} {at : Layout} (h : Laid bytes at) where
  module _ {per_frame insertion unvoiced : ℕ}
      (frame_is : per_frame ≡ u64_at bytes at.costs)
      (insertion_is : insertion ≡ u64_at bytes (at.costs + insertion_at))
      (unvoiced_is : unvoiced ≡ u32_at bytes (at.costs + unvoiced_at)) where
    pub costs_read : ◌≡◌ {A = Costs} (record { per_frame = of_bits binary64 per_frame; insertion_llr = of_bits binary64 insertion; unvoiced = of_bits binary32 unvoiced }) (phrase_of bytes).costs
    unfolding phrase_at
    costs_read =
        (λ i. record { per_frame = of_bits binary64 (frame_is i); insertion_llr = of_bits binary64 (insertion_is i); unvoiced = of_bits binary32 (unvoiced_is i) })
        ∙ ap (λ (p : Phrase). p.costs) (meaning h)

  pub per_frame_real : {bits : ℕ} → bits ≡ u64_at bytes at.costs → T (not (nan_bits binary64 bits))
  unfolding phrase_at
  per_frame_real is = subst⁻¹ (λ (p : ℕ). T (not (nan_bits binary64 p))) is (real_bits binary64 _ (within_real (fit_at h).per_frame))

  pub insertion_real : {bits : ℕ} → bits ≡ u64_at bytes (at.costs + insertion_at) → T (not (nan_bits binary64 bits))
  unfolding phrase_at
  insertion_real is = subst⁻¹ (λ (p : ℕ). T (not (nan_bits binary64 p))) is (real_bits binary64 _ (within_real (fit_at h).insertion))

  pub unvoiced_real : {bits : ℕ} → bits ≡ u32_at bytes (at.costs + unvoiced_at) → T (not (nan_bits binary32 bits))
  unfolding phrase_at
  unvoiced_real is = subst⁻¹ (λ (p : ℕ). T (not (nan_bits binary32 p))) is (real_bits binary32 _ (within_real (fit_at h).unvoiced))

  module _ (which : Which) (has : HasTable which (phrase_of bytes)) (frames : ℕ) (long : (shortest_unit ≤ frames) × (frames ≤ longest_unit))
      {table bits : ℕ} (there : table ≡ table_start which at) (is : bits ≡ u64_at bytes (table + 8 * (frames - shortest_unit))) where
    entry : of_bits binary64 bits ≡ duration_at bytes (table_start which at) frames
    entry = ap (of_bits binary64) is ∙ ap (λ (t : ℕ). duration_at bytes t frames) there

    pub duration_read : IsFloat ((stage_of which (phrase_of bytes)).duration frames) (of_bits binary64 bits)
    duration_read =
        record {
          is = entry ∙ duration_is h which frames;
          real = subst⁻¹ (λ (x : Float). T (not (is_nan x))) entry (within_real (duration_within h which has frames long.0 long.1));
        }
