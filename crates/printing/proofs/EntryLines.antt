-- The lines in the words of entries are the entries' lines.
use Prim.Native.Nat.{ℕ, suc, ◌-◌, ◌*◌}
use mathlib.Core.List.{List, [], ◌∷◌, ◌++◌, append_assoc}
use mathlib.Core.Path.{◌≡◌, refl, sym, ap, ap₂, subst, ◌∙◌}
use native.Mathlib.Omega.{arith}
use lib.ListN.{length, drop, replicate, length-append}
use lib.Seq.{drop_at}
use lib.Ieee.{binary32, to_bits}
use Rattle.entries.specs.Entry.{ReportedUnit, Entry}
use Rattle.limits.specs.Sizes.{entry_words}
use Rattle.entries.specs.Words.{unit_words, words_of, all_words}
use Rattle.laws.specs.Inner.Each.{Each, each_none, each_more}
use Rattle.entries.specs.Inner.Placing.{Fit}
use Rattle.entries.proofs.EntryWords.{length_words_of}
use Rattle.printing.specs.Listing.{head_line, unit_lines, entry_lines, all_lines}
use Rattle.printing.specs.Inner.InWords.{units_in, lines_in, all_lines_in, Whole, AllWhole, none, more}

units_in_law : (units : List ReportedUnit) (rest : List ℕ) → units_in (length units) (unit_words units ++ rest) ≡ units
unfolding units_in unit_words
units_in_law [] rest = refl
units_in_law (unit ∷ units) rest = ap (λ (us : List ReportedUnit). unit ∷ us) (units_in_law units rest)

module _ (most : ℕ) (e : Entry) (rest : List ℕ) where
  lines_in_law : lines_in (words_of most e ++ rest) ≡ entry_lines e
  unfolding lines_in words_of entry_lines
  lines_in_law =
      let zeros : List ℕ = replicate (3 * (most - length e.units)) 0 in
      ap (λ (us : List ReportedUnit). head_line e.id (to_bits binary32 e.llr) e.pass (length e.units) ++ unit_lines us)
      (ap (units_in (length e.units)) (append_assoc (unit_words e.units) zeros rest) ∙ units_in_law e.units (zeros ++ rest))

  whole : Fit most e → Whole most (words_of most e ++ rest)
  unfolding words_of
  whole fit = record { few = fit.few; there = omega (arith, length-append (words_of most e) rest, length_words_of most e fit.few) }

  next_entry : Fit most e → drop (entry_words most) (words_of most e ++ rest) ≡ rest
  next_entry fit = drop_at (words_of most e) rest (entry_words most) (length_words_of most e fit.few)

module _ (most : ℕ) where
  pub all_lines_in_law : {es : List Entry} → Each (Fit most) es → (rest : List ℕ)
      → all_lines_in (entry_words most) (length es) (all_words most es ++ rest) ≡ all_lines es
  unfolding all_lines_in all_words all_lines
  all_lines_in_law each_none rest = refl
  all_lines_in_law (each_more {x = e} {xs = es} fit fits) rest =
      let later = all_words most es ++ rest in
      ap (all_lines_in (entry_words most) (suc (length es))) (append_assoc (words_of most e) (all_words most es) rest)
      ∙ ap₂ ◌++◌ (lines_in_law most e later) (ap (all_lines_in (entry_words most) (length es)) (next_entry most e later fit)
      ∙ all_lines_in_law fits rest)

  pub all_whole : {es : List Entry} → Each (Fit most) es → (rest : List ℕ) → AllWhole most (length es) (all_words most es ++ rest)
  unfolding all_words
  all_whole each_none rest = none
  all_whole (each_more {x = e} {xs = es} fit fits) rest =
      let later = all_words most es ++ rest in
      subst (AllWhole most (suc (length es))) (sym (append_assoc (words_of most e) (all_words most es) rest))
      (more (whole most e later fit) (subst (AllWhole most (length es)) (sym (next_entry most e later fit)) (all_whole fits rest)))
