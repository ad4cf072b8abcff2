-- Document 01's sample phrase: from the 1,376 bytes of its record to the six lines of its listing.
use Prim.Native.Nat.{ℕ}
use mathlib.Core.List.{List, ◌++◌, zip_with}
use mathlib.Core.Option.{Option}
use mathlib.Core.Path.{◌≡◌, refl, ap, ◌∙◌}
use lib.Count.{count_trailing_zeros}
use lib.ListN.{length, drop}
use lib.Ieee.{add, sub, mul, neg, of_int, lt, of_bits, of_fields, is_nan, to_bits}
use Rattle.laws.specs.Listed.{listed}
use Rattle.text.specs.Ascii.{ascii, decimal, hexadecimal}
use Rattle.ieee.specs.Convert.{clamped, narrowed, clamped_log}
use Rattle.ieee.specs.TotalOrder.{total_before}
use Rattle.record.specs.Bytes.{u32_at, u64_at}
use Rattle.limits.specs.Edition.{numbers_of}
use Rattle.record.specs.Layout.{trailer_of, layout_from, layout_of}
use Rattle.record.specs.Meaning.{phrase_of}
use Rattle.limits.specs.declared.refusal.Refusal.{Refusal}
use Rattle.sample.specs.Sample.{sample}
use Rattle.sample.proofs.SamplePhrase.{accepted}
use Rattle.paths.specs.Anchors.{kept_in}
use Rattle.paths.specs.Units.{admits_unit}
use Rattle.paths.specs.StageProblem.{cost, unit_value_of}
use Rattle.paths.specs.Passes.{has_nucleus}
use Rattle.paths.specs.Path.{units_of}
use Rattle.paths.specs.Search.{chosen}
use Rattle.frames.specs.Frames.{highest_below, lowest_from}
use Rattle.entries.specs.Ranking.{rank_onto, ranked}
use Rattle.decoding.specs.Report.{reported_in}
use Rattle.decoding.specs.EntryOf.{entry_by, entries_of}
use Rattle.printing.specs.Listing.{decoded_text, listing_for, listing_of}
use Rattle.printing.specs.Rendered.{Rendered}

abbrev sample_lines : List ℕ
sample_lines =
    ascii "decoded 2\n"
    ++ ascii "candidate 3 c0100000 nuclei-strict 1\n"
    ++ ascii "4 14 0\n"
    ++ ascii "candidate 9 c1000000 none 2\n"
    ++ ascii "4 4 -\n"
    ++ ascii "4 4 -\n"

-- To name it on an `unfolding` line opens all that an accepted record's listing is worked out by.
worked : List ℕ → List ℕ
unfolding decoded_text decimal hexadecimal entry_by chosen has_nucleus kept_in cost admits_unit unit_value_of add sub mul neg of_int lt is_nan clamped_log clamped narrowed reported_in zip_with units_of highest_below lowest_from rank_onto total_before to_bits phrase_of layout_of layout_from trailer_of u32_at u64_at listed of_bits of_fields count_trailing_zeros numbers_of
worked bytes = decoded_text (length (phrase_of bytes).candidates) (ranked (entries_of (phrase_of bytes)))

sample_decoded : decoded_text (length (phrase_of sample).candidates) (ranked (entries_of (phrase_of sample))) ≡ sample_lines
unfolding worked sample
sample_decoded = refl

pub sample_listing : listing_of sample ≡ sample_lines
unfolding listing_of
sample_listing = ap (λ (o : Option Refusal). listing_for o (phrase_of sample)) accepted ∙ sample_decoded

-- so whoever keeps the contract of `render` writes these 94 bytes
pub sample_rendered : {out out' : List ℕ} {count : ℕ} → Rendered sample out count out' → (count ≡ 94) × (out' ≡ sample_lines ++ drop 94 out)
sample_rendered {out = out} rendered = (
  rendered.counted ∙ ap length sample_listing,
  rendered.written ∙ ap (λ (lines : List ℕ). lines ++ drop (length lines) out) sample_listing,
)
