-- How many words entries have, and how an entry's words come to stand in the output.
use Prim.Native.Nat.{ℕ, ◌+◌, ◌-◌, ◌*◌, ◌≤◌}
use mathlib.Core.Path.{◌≡◌, refl, sym, ap, ap₂, ◌∙◌}
use mathlib.Core.List.{List, [], ◌∷◌, ◌++◌, append_assoc}
use native.Mathlib.Nat.{zero-mul, suc-mul}
use native.Mathlib.Omega.{arith}
use lib.ListN.{length, take, drop, replicate, length-append, length-replicate}
use lib.Seq.{sets, sets-eq}
use lib.Ieee.{binary32, to_bits}
use Rattle.entries.specs.Entry.{ReportedUnit, Entry}
use Rattle.limits.specs.Sizes.{head_words, entry_words}
use Rattle.entries.specs.Words.{low_half, high_half, sum_bits, unit_words, words_of, all_words}
use Rattle.laws.specs.Inner.Each.{Each, each_none, each_more}
use Rattle.entries.specs.Inner.Placing.{Fit}
use Rattle.laws.proofs.Stores.{sets_append}

pub length_unit_words : (us : List ReportedUnit) → length (unit_words us) ≡ 3 * length us
unfolding unit_words
length_unit_words [] = refl
length_unit_words (u ∷ us) = omega (arith, length_unit_words us)

pub unit_words_append : (us vs : List ReportedUnit) → unit_words (us ++ vs) ≡ unit_words us ++ unit_words vs
unfolding unit_words
unit_words_append [] vs = refl
unit_words_append (u ∷ us) vs = ap (λ (l : List ℕ). u.start ∷ u.end ∷ u.row ∷ l) (unit_words_append us vs)

pub length_words_of : (most : ℕ) (e : Entry) → length e.units ≤ most → length (words_of most e) ≡ entry_words most
unfolding words_of
length_words_of most e few =
    omega (
      arith,
      length-append (unit_words e.units) (replicate (3 * (most - length e.units)) 0),
      length_unit_words e.units,
      length-replicate {A = ℕ} (3 * (most - length e.units)) 0,
    )

pub length_all_words : (most : ℕ) {es : List Entry} → Each (Fit most) es → length (all_words most es) ≡ length es * entry_words most
unfolding all_words
length_all_words most each_none = sym (zero-mul (entry_words most))
length_all_words most (each_more {x = e} {xs = es} fit fits) =
    length-append (words_of most e) (all_words most es)
    ∙ ap₂ ◌+◌ (length_words_of most e fit.few) (length_all_words most fits)
    ∙ omega (arith, suc-mul (length es) (entry_words most))

pub all_words_append : (most : ℕ) (xs ys : List Entry) → all_words most (xs ++ ys) ≡ all_words most xs ++ all_words most ys
unfolding all_words
all_words_append most [] ys = refl
all_words_append most (x ∷ xs) ys =
    ap (λ (l : List ℕ). words_of most x ++ l) (all_words_append most xs ys)
    ∙ sym (append_assoc (words_of most x) (all_words most xs) (all_words most ys))

-- The head, the units and the zeros that fill up, stored one after the other from any place on: the words of the entry.
module _ (most : ℕ) (e : Entry) (l : List ℕ) (at k : ℕ) (counted : length e.units ≡ k) (few : k ≤ most)
    (within : at + entry_words most ≤ length l) where
  pub stored : {headed listed filled : List ℕ}
      → headed ≡ sets l at (e.id ∷ to_bits binary32 e.llr ∷ e.pass ∷ k ∷ low_half (sum_bits e) ∷ high_half (sum_bits e) ∷ [])
      → listed ≡ sets headed (at + head_words) (unit_words e.units)
      → filled ≡ sets listed (at + head_words + 3 * k) (replicate (at + entry_words most - (at + head_words + 3 * k)) 0)
      → filled ≡ take at l ++ words_of most e ++ drop (at + entry_words most) l
  unfolding words_of
  stored {headed} {listed} first second third =
      let units : List ℕ = unit_words e.units in
      let zeros : List ℕ = replicate (3 * (most - length e.units)) 0 in
      let head : ℕ → List ℕ =
      λ n. e.id ∷ to_bits binary32 e.llr ∷ e.pass ∷ n ∷ low_half (sum_bits e) ∷ high_half (sum_bits e) ∷ [] in
      let used : at + head_words + 3 * k ≡ at + head_words + length units = omega (arith, length_unit_words e.units) in
      let left : at + entry_words most - (at + head_words + 3 * k) ≡ 3 * (most - length e.units) = omega arith in
      let size : length (words_of most e) ≡ entry_words most = length_words_of most e (omega arith) in
      third
      ∙ ap₂ (λ (n m : ℕ). sets listed n (replicate m 0)) used left
      ∙ ap (λ (r : List ℕ). sets r (at + head_words + length units) zeros) second
      ∙ sym (sets_append headed units zeros (at + head_words))
      ∙ ap (λ (r : List ℕ). sets r (at + head_words) (units ++ zeros)) first
      ∙ ap (λ (n : ℕ). sets (sets l at (head n)) (at + head_words) (units ++ zeros)) (sym counted)
      ∙ sym (sets_append l (head (length e.units)) (units ++ zeros) at)
      ∙ sets-eq (words_of most e) l at (omega (arith, size))
      ∙ ap (λ (n : ℕ). take at l ++ words_of most e ++ drop (at + n) l) size
