-- The full sum in the words of an entry, and where the words of the entry at a rank stand among those of all. Assumes nothing.
use Prim.Native.Nat.{ℕ, zero, suc, ◌+◌, ◌*◌, ◌<◌}
use mathlib.Core.Path.{◌≡◌, sym, ap, ◌∙◌}
use mathlib.Core.List.{List, ◌++◌, append_assoc}
use native.Mathlib.Nat.{zero-mul, suc-mul}
use native.Mathlib.Omega.{arith}
use lib.ListN.{length, get_or, drop}
use lib.Seq.{drop_at, drop-drop}
use Rattle.laws.specs.Inner.Each.{Each, each_none, each_more}
use Rattle.limits.specs.Sizes.{entry_words}
use Rattle.entries.specs.Entry.{Entry}
use Rattle.entries.specs.Words.{low_half, high_half, sum_bits, words_of, all_words}
use Rattle.entries.specs.Inner.Placing.{Fit}
use Rattle.entries.specs.Theory.FullSum.{joined, sum_in}
use Rattle.entries.proofs.EntryWords.{length_words_of}

-- the halves of a number, put together
pub halves_joined : (bits : ℕ) → joined (low_half bits) (high_half bits) ≡ bits
halves_joined bits = omega arith

pub sum_in_law : (most : ℕ) (e : Entry) (rest : List ℕ) → sum_in (words_of most e ++ rest) ≡ sum_bits e
unfolding words_of
sum_in_law most e rest = halves_joined (sum_bits e)

module _ (most : ℕ) (other : Entry) where
  -- the words from the entry at a rank on: its own, and those behind it
  pub words_at : {es : List Entry} → Each (Fit most) es → (rank : ℕ) → rank < length es → (rest : List ℕ)
      → (later : List ℕ) × (drop (rank * entry_words most) (all_words most es ++ rest) ≡ words_of most (get_or es rank other) ++ later)
  unfolding all_words
  words_at each_none rank below rest = absurd (omega arith)
  words_at (each_more {x = e} {xs = es} fit fits) zero below rest = (
    all_words most es ++ rest,
    ap (λ (n : ℕ). drop n (words_of most e ++ all_words most es ++ rest)) (zero-mul (entry_words most))
        ∙ append_assoc (words_of most e) (all_words most es) rest,
  )
  words_at (each_more {x = e} {xs = es} fit fits) (suc rank) below rest =
      let size = entry_words most in
      let further : suc rank * size ≡ size + rank * size = omega (arith, suc-mul rank size) in
      let there = words_at fits rank (omega arith) rest in (
        there.0,
        ap (λ (n : ℕ). drop n (words_of most e ++ all_words most es ++ rest)) further
            ∙ sym (drop-drop (rank * size) size (words_of most e ++ all_words most es ++ rest))
            ∙ ap (drop (rank * size))
            (ap (drop size) (append_assoc (words_of most e) (all_words most es) rest)
            ∙ drop_at (words_of most e) (all_words most es ++ rest) size (length_words_of most e fit.few))
            ∙ there.1,
      )
