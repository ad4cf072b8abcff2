-- What is left to write after a turn of each loop over words.
use Prim.Native.Nat.{ℕ, zero, suc, ◌+◌, ◌-◌, ◌*◌, ◌≤◌, ◌<◌}
use mathlib.Core.List.{List, [], ◌∷◌, ◌++◌}
use mathlib.Core.Path.{◌≡◌, refl, ap, ap₂, subst, ◌∙◌}
use native.Mathlib.Omega.{arith}
use lib.ListN.{length, get_or, take, drop, length-drop}
use Rattle.std.specs.Prelude.{map}
use lib.Seq.{take_all, drop_at}
use Rattle.std.specs.Simd.{first_chunks}
use Rattle.std.proofs.lemmas.List.{at_drop_more, at_drop_all}
use Rattle.entries.specs.Entry.{ReportedUnit}
use Rattle.limits.specs.Sizes.{entry_words}
use Rattle.printing.specs.Listing.{head_line, unit_line, unit_lines}
use Rattle.printing.specs.Inner.InWords.{unit_in, units_in, units_of, lines_in, all_lines_in, Whole, AllWhole, none, more}

-- a part of a slice up to its end is what is left of it
pub part_from : (from : ℕ) (words : List ℕ) → take (length words - from) (drop from words) ≡ drop from words
part_from from words = take_all (length words - from) (drop from words) (omega (arith, length-drop from words))

-- ---- units

-- the units of the first words, three by three
pub units_chunked : (count m : ℕ) (words : List ℕ) → count ≤ m → map unit_in (take count (first_chunks 3 m words)) ≡ units_in count words
unfolding units_in
units_chunked zero m words few = refl
units_chunked (suc count) zero words few = absurd (omega arith)
units_chunked (suc count) (suc m) words few = ap₂ (λ (u : ReportedUnit) (us : List ReportedUnit). u ∷ us) (first words) (units_chunked count m (drop 3 words) (omega arith))
  where
    first : (ws : List ℕ) → unit_in (take 3 ws) ≡ unit_in ws
    first [] = refl
    first (a ∷ []) = refl
    first (a ∷ b ∷ []) = refl
    first (a ∷ b ∷ c ∷ ws) = refl

module _ (units : List (List ℕ)) (i : ℕ) where
  pub units_turn : i < length units → unit_lines (map unit_in (drop i units)) ≡ unit_line (unit_in (get_or units i [])) ++ unit_lines (map unit_in (drop (i + 1) units))
  unfolding unit_lines
  units_turn more_left = at_drop_more (λ us. unit_lines (map unit_in us)) units i [] more_left

  pub units_end : length units ≤ i → unit_lines (map unit_in (drop i units)) ≡ []
  unfolding unit_lines
  units_end none_left = at_drop_all (λ us. unit_lines (map unit_in us)) units i none_left

-- ---- entries

units_front : (k : ℕ) (words rest : List ℕ) → 3 * k ≤ length words → units_in k (words ++ rest) ≡ units_in k words
unfolding units_in
units_front zero words rest long = refl
units_front (suc k) [] rest long = absurd (omega arith)
units_front (suc k) (a ∷ []) rest long = absurd (omega arith)
units_front (suc k) (a ∷ b ∷ []) rest long = absurd (omega arith)
units_front (suc k) (a ∷ b ∷ c ∷ words) rest long =
    ap (λ (us : List ReportedUnit). record { start = a; end = b; row = c } ∷ us) (units_front k words rest (omega arith))

-- what stands behind an entry is no part of its lines
count_front : (words rest : List ℕ) → 6 ≤ length words → units_of (words ++ rest) ≡ units_of words
count_front [] rest long = absurd (omega arith)
count_front (a ∷ []) rest long = absurd (omega arith)
count_front (a ∷ b ∷ []) rest long = absurd (omega arith)
count_front (a ∷ b ∷ c ∷ []) rest long = absurd (omega arith)
count_front (a ∷ b ∷ c ∷ d ∷ words) rest long = refl

lines_front : (words rest : List ℕ) → entry_words (units_of words) ≤ length words → lines_in (words ++ rest) ≡ lines_in words
unfolding lines_in
lines_front [] rest long = absurd (omega arith)
lines_front (a ∷ []) rest long = absurd (omega arith)
lines_front (a ∷ b ∷ []) rest long = absurd (omega arith)
lines_front (a ∷ b ∷ c ∷ []) rest long = absurd (omega arith)
lines_front (a ∷ b ∷ c ∷ d ∷ []) rest long = absurd (omega arith)
lines_front (a ∷ b ∷ c ∷ d ∷ e ∷ []) rest long = absurd (omega arith)
lines_front (a ∷ b ∷ c ∷ d ∷ e ∷ f ∷ words) rest long =
    ap (λ (us : List ReportedUnit). head_line a b c d ++ unit_lines us) (units_front d words rest (omega arith))

-- The entry in front is taken off.
module _ (most m : ℕ) (entry rest : List ℕ) (long : length entry ≡ entry_words most) where
  splits : {k : ℕ} {all : List ℕ} → AllWhole most k all → k ≡ suc m → all ≡ entry ++ rest → Whole most entry × AllWhole most m rest
  splits none same parted = absurd (omega arith)
  splits {k = suc k} (more first later) same parted =
      let count : units_of (entry ++ rest) ≡ units_of entry = count_front entry rest (omega (arith, long)) in
      let fewer : k ≡ m = omega arith in (
        record { few = subst (λ (u : ℕ). u ≤ most) (ap units_of parted ∙ count) first.few; there = omega (arith, long) },
        subst (λ (j : ℕ). AllWhole most j rest) fewer
            (subst (AllWhole most k) (ap (drop (entry_words most)) parted ∙ drop_at entry rest (entry_words most) long) later),
      )

  module _ {n : ℕ} {words : List ℕ} (one_less : m + 1 ≡ n) (parts : words ≡ entry ++ rest) (whole : AllWhole most n words) where
    pub whole_first : Whole most entry
    whole_first = (splits whole (omega arith) parts).0

    pub whole_later : AllWhole most m rest
    whole_later = (splits whole (omega arith) parts).1

    pub entries_turn : all_lines_in (entry_words most) n words ≡ lines_in entry ++ all_lines_in (entry_words most) m rest
    unfolding all_lines_in
    entries_turn =
        let same : n ≡ suc m = omega arith in
        let there : entry_words (units_of entry) ≤ length entry = omega (arith, long, whole_first.few) in
        ap₂ (all_lines_in (entry_words most)) same parts
        ∙ ap₂ ◌++◌ (lines_front entry rest there) (ap (all_lines_in (entry_words most) m) (drop_at entry rest (entry_words most) long))

-- no entry is left where there is no room for one
pub entries_end : (most : ℕ) {n : ℕ} {words : List ℕ} → AllWhole most n words → (0 < n → length words < entry_words most) → n ≡ 0
entries_end most none short = refl
entries_end most (more first later) short = let less = short (omega arith) in absurd (omega (arith, first.there))
