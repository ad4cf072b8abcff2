-- What document 01 lists under "Proved as a group", in its order, as theorems about the definitions.
use Prim.Native.Nat.{ℕ, ◌*◌}
use mathlib.Core.Bool.{Bool, true, false, cond}
use mathlib.Core.List.{List, [], ◌∷◌, ◌++◌, map}
use mathlib.Core.Option.{Option, none, some}
use mathlib.Core.Path.{◌≡◌, refl, ap, ◌∙◌}
use lib.ListN.{length, replicate, drop}
use lib.IntN.{negsuc}
use lib.Count.{count_trailing_zeros}
use lib.Ieee.{Float, fin, binary32, binary64, to_bits, of_bits, of_fields}
use Rattle.std.specs.Prelude.{Result}
use Rattle.limits.specs.Common.{absent}
use Rattle.laws.specs.Listed.{listed}
use Rattle.ieee.specs.Convert.{clamped_log}
use Rattle.ieee.specs.TotalOrder.{total_before}
use Rattle.paths.specs.declared.passes.Strictness.TheVariants.{Strict}
use Rattle.paths.specs.Anchors.{Anchor}
use Rattle.paths.specs.Units.{admits_unit}
use Rattle.frames.specs.Outcome.{accepted, outcome}
use Rattle.spans.specs.Spans.{spans_of}
use Rattle.rate.specs.Rate.{rate}
use Rattle.ieee.proofs.ConvertExamples as convert-examples
use Rattle.paths.proofs.PhraseExamples as phrase-examples
use Rattle.spans.proofs.Examples as span-examples
use Rattle.rate.proofs.Examples as rate-examples
use Rattle.frames.specs.declared.span.Span.{Span}
use Rattle.clip.specs.Clip.{anchored, unanchored, reported}
use Rattle.clip.proofs.Examples as clip
use Rattle.record.specs.Bytes.{u32_at, u64_at}
use Rattle.limits.specs.Sizes.{entry_words}
use Rattle.limits.specs.Edition.{numbers_of}
use Rattle.record.specs.Layout.{trailer_of, layout_from, layout_of, limits_of}
use Rattle.record.specs.Conditions.{short_desk}
use Rattle.record.specs.Refusals.{refusal_with}
use Rattle.record.specs.Meaning.{phrase_of}
use Rattle.sample.specs.Sample.{sample}
use Rattle.limits.specs.declared.refusal.Refusal.{Refusal}
use Rattle.limits.specs.declared.refusal.Refusal.TheVariants.{Desk}
use Rattle.record.proofs.Answers.{desk_last}
use Rattle.sample.proofs.SamplePhrase as sample-record
use Rattle.entries.specs.Words.{all_words}
use Rattle.entries.specs.Ranking.{ranked, rank_onto}
use Rattle.decoding.specs.EntryOf.{entry_of, entries_of}
use Rattle.decoding.specs.Contract.{outcome_of, Decodes}
use Rattle.decoding.proofs.Examples.{worked_entry, nought, stage_of, candidate, zero_phrase}

-- ---- "this phrase": the sample, from its 1,376 bytes to the words of the listing

-- To name it on an `unfolding` line opens all that a record's words are worked out by.
unfoldable pub worked_words : ℕ → List ℕ → List ℕ
unfolding worked_entry all_words rank_onto total_before to_bits phrase_of layout_of layout_from trailer_of u32_at u64_at listed of_bits of_fields count_trailing_zeros numbers_of
worked_words most bytes = all_words most (ranked (entries_of (phrase_of bytes)))

-- candidate 3 c0100000 nuclei-strict 1: 4 14 0; candidate 9 c1000000 none 2: 4 4 -, 4 4 -. Beside the scores stand the sum -2.25, whose
-- bits are c002000000000000, and the product -8, c020000000000000.
abbrev sample_words : List ℕ
sample_words =
    (3 ∷ 0xc0100000 ∷ 0 ∷ 1 ∷ 0 ∷ 0xc0020000 ∷ 4 ∷ 14 ∷ 0 ∷ replicate 45 0)
    ++ (9 ∷ 0xc1000000 ∷ 4 ∷ 2 ∷ 0 ∷ 0xc0200000 ∷ 4 ∷ 4 ∷ absent ∷ 4 ∷ 4 ∷ absent ∷ replicate 42 0)

sample_words_law : all_words (limits_of sample).units (ranked (entries_of (phrase_of sample))) ≡ sample_words
unfolding worked_words sample
sample_words_law = refl

pub sample_candidates_law : length (phrase_of sample).candidates ≡ 2
unfolding worked_words sample
sample_candidates_law = refl

sample_laid : (layout_of sample).candidates.count ≡ 2
unfolding worked_words sample
sample_laid = refl

module _ (best : List Float) (back out : List ℕ)
    (long : short_desk (limits_of sample) 2 (length best) (length back) (length out) ≡ false) where
  -- with buffers that are long enough it is accepted
  sample_accepted : refusal_with sample (length best) (length back) (length out) ≡ none
  sample_accepted =
      desk_last sample (length best) (length back) (length out) sample-record.accepted
      ∙ ap (λ (b : Bool). cond b (some Desk) none)
      (ap (λ (m : ℕ). short_desk (limits_of sample) m (length best) (length back) (length out)) sample_laid ∙ long)

  -- and every decoder that meets the contract answers 2 and writes these words
  pub sample_decoded :
      {answer : Result ℕ Refusal} {best' : List Float} {back' out' : List ℕ} → Decodes sample best back out answer best' back' out' →
      (outcome answer ≡ accepted 2) × (out' ≡ sample_words ++ drop 108 out)
  unfolding worked_words sample
  sample_decoded decodes = (
    decodes.answered ∙ ap (λ (o : Option Refusal). outcome_of o (length (phrase_of sample).candidates)) sample_accepted
        ∙ ap accepted sample_candidates_law,
    (decodes.accepts sample_accepted).words
        ∙ ap (λ (words : List ℕ). words ++ drop (length (phrase_of sample).candidates * entry_words (limits_of sample).units) out)
        sample_words_law
        ∙ ap (λ (m : ℕ). sample_words ++ drop (m * entry_words (limits_of sample).units) out) sample_candidates_law,
  )

-- ---- "units of 5 (barred), 6, 80, 81 (barred) frames"

abbrev anchor : Anchor
anchor = record { frame = 0; row = 0 }

pub unit_frames : map (admits_unit Strict (anchor ∷ []) 0) (5 ∷ 6 ∷ 80 ∷ 81 ∷ []) ≡ false ∷ true ∷ true ∷ false ∷ []
unit_frames = phrase-examples.unit_lengths

-- ---- "frames 10, 30, 60 give rate 0.25; equal frames give the default"

pub rate_quarter : (default : Float) → rate (10 ∷ 30 ∷ 60 ∷ []) default ≡ of_bits binary64 0x3fd0_0000_0000_0000
rate_quarter = rate-examples.rate_of_three

pub rate_default : (n frame : ℕ) (default : Float) → rate (replicate n frame) default ≡ default
rate_default = rate-examples.equal_frames

-- ---- "nuclei 10, 13 with edges 5, 20 and no boundaries give 5..12, 12..20"

pub spans_cut : spans_of (10 ∷ 13 ∷ []) [] 5 20 ≡ record { start = 5; end = 12 } ∷ record { start = 12; end = 20 } ∷ []
spans_cut = span-examples.two_spans

-- ---- "clip of 10..22 between anchored 4..14 and 18..30 gives 14..18; first unit 20..28 before anchored 15..30 gives 20..20"

abbrev frames : ℕ → ℕ → Span
frames start end = record { start = start; end = end }

pub clip_between : reported (anchored (frames 4 14) ∷ unanchored (frames 10 22) ∷ anchored (frames 18 30) ∷ [])
    ≡ frames 4 14 ∷ frames 14 18 ∷ frames 18 30 ∷ []
clip_between = clip.between

pub clip_first : reported (unanchored (frames 20 28) ∷ anchored (frames 15 30) ∷ []) ≡ frames 20 20 ∷ frames 15 30 ∷ []
clip_first = clip.at_first

-- ---- "1000000.5 narrows to 49742400": 1,000,000.5 = 2,000,001 / 2

pub narrows : to_bits binary32 (clamped_log (fin false 2000001 (negsuc 0))) ≡ 0x49742400
narrows = convert-examples.clamped_to_a_million

-- ---- "boundaries 0, 6, 12, all values zero, relaxed, one unit: 0..6"

-- the only nucleus is past the last boundary, so that no strict unit is there
pub lowest_first : entry_of (zero_phrase 13 (stage_of (12 ∷ []) 0 (0 ∷ 6 ∷ 12 ∷ [])) (stage_of [] 1 [])) candidate ≡ record {
  id = 1;
  pass = 3;
  total = nought;
  llr = nought;
  units = record { start = 0; end = 6; row = absent } ∷ [];
}
unfolding worked_entry
lowest_first = refl
