-- What a call of decoding with long enough buffers says of the record's listing.
use Prim.Native.Nat.{ℕ, ◌*◌, ◌≤◌}
use mathlib.Core.Bool.{Bool, false, ◌||◌, cond}
use mathlib.Core.List.{List, ◌++◌}
use mathlib.Core.Option.{Option, none, some}
use mathlib.Core.Path.{◌≡◌, refl, sym, ap, ap₂, subst, subst₂, ◌∙◌}
use native.Mathlib.Nat.{zero-add, le_trans}
use native.Mathlib.Omega.{arith}
use borrow.Author.Tests.{le-ltb}
use lib.ListN.{length, drop, length-map}
use lib.Seq.{sets-eq}
use lib.Ieee.{Float}
use Rattle.std.specs.Prelude.{Result, Ok, Err}
use Rattle.text.specs.Ascii.{ascii, decimal}
use Rattle.text.specs.Inner.Puts.{Puts}
use Rattle.limits.specs.Capacity.{most_units, most_candidates, most_cells}
use Rattle.limits.proofs.Editions.{cells_within, words_within}
use Rattle.record.specs.Format.{trailer_bytes}
use Rattle.record.specs.Layout.{layout_of, limits_of}
use Rattle.record.specs.Conditions.{short_desk}
use Rattle.limits.specs.Refusals.{number_of}
use Rattle.record.specs.Refusals.{refusal_of, refusal_with}
use Rattle.record.specs.Meaning.{phrase_of}
use Rattle.limits.specs.declared.refusal.Refusal.{Refusal}
use Rattle.limits.specs.declared.refusal.Refusal.TheVariants.{Desk}
use Rattle.record.proofs.Accepted.{own_moderate, laid_long}
use Rattle.record.proofs.Answers.{refused_first, desk_last}
use Rattle.entries.specs.Entry.{Entry}
use Rattle.limits.specs.Sizes.{entry_words, work_cells}
use Rattle.entries.specs.Words.{all_words}
use Rattle.laws.specs.Inner.Each.{Each}
use Rattle.entries.specs.Inner.Placing.{Fit}
use Rattle.entries.specs.Ranking.{ranked}
use Rattle.entries.proofs.Ranks.{each_ranked}
use Rattle.entries.proofs.RankedLength.{length_ranked}
use Rattle.decoding.specs.EntryOf.{entry_of, entries_of}
use Rattle.frames.specs.Outcome.{outcome}
use Rattle.decoding.specs.Contract.{outcome_of, Decodes}
use Rattle.decoding.proofs.Calls.{candidates_counted}
use Rattle.decoding.proofs.Bounded.{phrase_fit}
use Rattle.decoding.proofs.Demands.{entries_fit}
use Rattle.printing.specs.Listing.{decoded_text, refused_text, listing_for, listing_of}
use Rattle.printing.specs.Inner.InWords.{all_lines_in, decoded_in, AllWhole}
use Rattle.printing.specs.Rendered.{listing_bytes, Rendered}
use Rattle.printing.proofs.EntryLines.{all_lines_in_law, all_whole}

-- Room for the entries of every record: no call with it is refused by 11.
pub record Ample (best back words : ℕ) : Type 0 where
  pub values : most_cells ≤ best
  pub marks : most_cells ≤ back
  pub entries : most_candidates * entry_words most_units ≤ words

module _ (bytes : List ℕ) {best back words : ℕ} (ample : Ample best back words) where
  long_enough : refusal_of bytes ≡ none → short_desk (limits_of bytes) (layout_of bytes).candidates.count best back words ≡ false
  long_enough fine =
      let few = subst (λ (n : ℕ). n ≤ (limits_of bytes).candidates) (candidates_counted bytes) (phrase_fit bytes fine).few_candidates in
      let cells = cells_within (own_moderate bytes) in
      ap₂ ◌||◌
      (ap₂ ◌||◌ (le-ltb best (work_cells (limits_of bytes)) (le_trans cells ample.values))
      (le-ltb back (work_cells (limits_of bytes)) (le_trans cells ample.marks)))
      (le-ltb words ((layout_of bytes).candidates.count * entry_words (limits_of bytes).units)
      (le_trans (words_within (own_moderate bytes) few) ample.entries))

  -- so what refuses a call is what refuses the record
  own_refusal : refusal_with bytes best back words ≡ refusal_of bytes
  own_refusal = go (refusal_of bytes) refl
    where
      go : (o : Option Refusal) → refusal_of bytes ≡ o → refusal_with bytes best back words ≡ refusal_of bytes
      go none e = desk_last bytes best back words e ∙ ap (λ (short : Bool). cond short (some Desk) none) (long_enough e) ∙ sym e
      go (some q) e = refused_first bytes best back words q e ∙ sym e

-- ---- an accepted record

-- the ranked entries of an accepted record can be written, and there are M
module _ (bytes : List ℕ) (fine : refusal_of bytes ≡ none) where
  abbrev most : ℕ
  most = (limits_of bytes).units

  abbrev entries : List Entry
  entries = ranked (entries_of (phrase_of bytes))

  fit : Each (Fit most) entries
  fit = each_ranked (Fit most) (entries_fit bytes fine)

  counted : length entries ≡ length (phrase_of bytes).candidates
  counted = length_ranked (entries_of (phrase_of bytes)) ∙ length-map (phrase_of bytes).candidates (entry_of (phrase_of bytes))

  module _ (count : ℕ) (same : count ≡ length (phrase_of bytes).candidates)
      {words : List ℕ} (rest : List ℕ) (written : words ≡ all_words most entries ++ rest) where
    as_many : length entries ≡ count
    as_many = counted ∙ sym same

    entries_whole : AllWhole most count words
    entries_whole = subst₂ (AllWhole most) as_many (sym written) (all_whole most fit rest)

    entries_listed : decoded_in (entry_words most) count words ≡ listing_of bytes
    unfolding decoded_in listing_of decoded_text
    entries_listed =
        ap (λ (lines : List ℕ). ascii "decoded " ++ decimal count ++ ascii "\n" ++ lines)
        (ap₂ (all_lines_in (entry_words most)) (sym as_many) written ∙ all_lines_in_law most fit rest)
        ∙ ap (λ (m : ℕ). decoded_text m entries) same
        ∙ sym (ap (λ (o : Option Refusal). listing_for o (phrase_of bytes)) fine)

-- ---- what the answer says

-- an accepted call's words are those of the record's entries
pub record Listed (bytes words : List ℕ) (count : ℕ) : Type 0 where
  pub long : trailer_bytes ≤ length bytes
  pub few : count ≤ most_candidates
  pub whole : AllWhole (limits_of bytes).units count words
  pub lines : decoded_in (entry_words (limits_of bytes).units) count words ≡ listing_of bytes

module _ {bytes : List ℕ} {best : List Float} {back words : List ℕ} {answer : Result ℕ Refusal} {best' : List Float} {back' words' : List ℕ}
    (ample : Ample (length best) (length back) (length words)) (decodes : Decodes bytes best back words answer best' back' words') where
  said : (o : Option Refusal) {given : Result ℕ Refusal} → refusal_of bytes ≡ o → answer ≡ given
      → outcome given ≡ outcome_of o (length (phrase_of bytes).candidates)
  said o rules e =
      ap outcome (sym e)
      ∙ decodes.answered
      ∙ ap (λ (q : Option Refusal). outcome_of q (length (phrase_of bytes).candidates)) (own_refusal bytes ample ∙ rules)

  pub accepted_listing : (count : ℕ) → answer ≡ Ok count → Listed bytes words' count
  accepted_listing count e = go (refusal_of bytes) refl
    where
      go : (o : Option Refusal) → refusal_of bytes ≡ o → Listed bytes words' count
      go (some q) rules = let never : ◌≡◌ {A = ℕ} 0 1 = cc (said (some q) rules e) in absurd (omega arith)
      go none fine =
          let same : count ≡ length (phrase_of bytes).candidates = cc (said none fine e) in
          let written = (decodes.accepts (own_refusal bytes ample ∙ fine)).words in
          record {
            long = laid_long {at = layout_of bytes} (record { accepted = fine; layout = refl });
            few = omega (arith, (phrase_fit bytes fine).few_candidates, (own_moderate bytes).candidates);
            whole = entries_whole bytes fine count same _ written;
            lines = entries_listed bytes fine count same _ written;
          }

  pub refused_listing : (q : Refusal) → answer ≡ Err q → refused_text (number_of q) ≡ listing_of bytes
  unfolding listing_of
  refused_listing q e = go (refusal_of bytes) refl
    where
      go : (o : Option Refusal) → refusal_of bytes ≡ o → refused_text (number_of q) ≡ listing_for (refusal_of bytes) (phrase_of bytes)
      go none fine = let never : ◌≡◌ {A = ℕ} 0 1 = cc (said none fine e) in absurd (omega arith)
      go (some p) rules =
          let same : number_of q ≡ number_of p = cc (said (some p) rules e) in
          ap refused_text same ∙ sym (ap (λ (o : Option Refusal). listing_for o (phrase_of bytes)) rules)

-- ---- what was written

-- a listing at the front of a buffer with room for every listing
pub rendered : {bytes out mid out' : List ℕ} {next : ℕ}
    → out' ≡ mid → listing_bytes ≤ length out → Puts listing_bytes out 0 (listing_of bytes) mid next → Rendered bytes out next out'
rendered {bytes = bytes} {out = out} same room puts = record {
  counted = puts.after ∙ zero-add (length (listing_of bytes));
  enough = puts.short;
  written =
      same
      ∙ puts.written
      ∙ sets-eq (listing_of bytes) out 0 (omega (arith, puts.short))
      ∙ ap (λ (n : ℕ). listing_of bytes ++ drop n out) (zero-add (length (listing_of bytes)));
}
