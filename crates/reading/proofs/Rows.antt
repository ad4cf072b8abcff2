-- A row of scores: a part of the record that starts in its middle.
use Prim.Native.Nat.{ℕ, ◌+◌, ◌*◌, ◌≤◌, ◌<◌}
use mathlib.Core.Bool.{not}
use mathlib.Core.List.{List}
use mathlib.Core.Path.{◌≡◌, refl, ap, subst⁻¹, ◌∙◌}
use native.Mathlib.Nat.{add_assoc, mul_comm}
use native.Mathlib.Omega.{arith}
use lib.Dec.{T}
use lib.ListN.{length, drop, length-drop}
use lib.Seq.{get_or-drop}
use lib.Ieee.{Float, binary32, of_bits, is_nan}
use Rattle.phrase.specs.Phrase.{Phrase}
use Rattle.record.specs.Bytes.{u32_at}
use Rattle.record.specs.Conditions.{f32_at}
use Rattle.record.specs.Meaning.{phrase_at, phrase_of}
use Rattle.record.specs.Inner.Accepted.{Laid}
use Rattle.record.specs.Inner.Reading.{row_start, ScoreRow}
use Rattle.record.specs.declared.layout.Layout.{Layout}
use Rattle.record.specs.declared.read.Which.TheVariants.{Nuclei, Count}
use Rattle.record.proofs.Entries.{entry_within}
use Rattle.record.proofs.Accepted.{meaning, fit}
use Rattle.record.proofs.Reading.{sections, anchors_are, within_real}
use Rattle.reading.proofs.Sections.{section_long}

u32_drop : (bytes : List ℕ) (k at : ℕ) → u32_at (drop k bytes) at ≡ u32_at bytes (k + at)
unfolding u32_at
u32_drop bytes k at = simp (get_or-drop, add_assoc)

-- the row starts within the record, with room for its columns
pub row_within : {bytes : List ℕ} {at : Layout} → Laid bytes at → {row : ℕ} → row < length (phrase_of bytes).nuclei.anchors + length (phrase_of bytes).added.anchors → at.scores.start + 4 * (row * at.scores.count + at.scores.count) ≤ length bytes
row_within {bytes} {at} h {row} below =
    let rows : row < at.nuclei.count + at.added_anchors.count = omega (arith, section_long bytes {s = at.nuclei} refl (anchors_are h Nuclei), section_long bytes {s = at.added_anchors} refl (anchors_are h Count)) in
    omega (arith, (sections h).scores, entry_within at.scores.count rows, mul_comm at.scores.count row, mul_comm at.scores.count (at.nuclei.count + at.added_anchors.count))

module _ {bytes : List ℕ} {at : Layout} (h : Laid bytes at) {row : ℕ} (below : row < length (phrase_of bytes).nuclei.anchors + length (phrase_of bytes).added.anchors) where
  row_entry : (column : ℕ) → f32_at (drop (row_start at row) bytes) (4 * column) ≡ (phrase_of bytes).score row column
  unfolding phrase_at
  row_entry column =
      let place : row_start at row + 4 * column ≡ at.scores.start + 4 * (row * at.scores.count + column) = omega arith in
      ap (of_bits binary32) (u32_drop bytes (row_start at row) (4 * column) ∙ ap (u32_at bytes) place) ∙ ap (λ (p : Phrase). p.score row column) (meaning h)

  pub score_row_law : ScoreRow at.scores.count ((phrase_of bytes).score row) (drop (row_start at row) bytes)
  score_row_law =
      record {
        long = subst⁻¹ (λ (n : ℕ). 4 * at.scores.count ≤ n) (length-drop (row_start at row) bytes) (omega (arith, row_within h below));
        entry = λ column inside.
            record {
              is = row_entry column;
              real = subst⁻¹ (λ (x : Float). T (not (is_nan x))) (row_entry column) (within_real ((fit h).scores row column below inside));
            };
      }
