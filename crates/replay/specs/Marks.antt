-- What lent memory holds before a call, a mark in every cell, and what is wanted of it afterwards.
use Rattle.std.specs.Prelude.{ℕ, ◌+◌, ◌*◌, Bool, not, cond, ◌&&◌, List, eqb, ltb, Float, length, get_or}
use Rattle.std.specs.Float.{binary64}
use Rattle.std.specs.Float.Ieee.{is_nan, of_bits, to_bits}
use Rattle.record.specs.Below.{any_below}
use Rattle.record.specs.Bytes.{u32_at}

abbrev pub mark : ℕ
mark = 0xdeadbeef

-- 7777.25
abbrev pub float_mark : Float
float_mark = of_bits binary64 0x40be614000000000

-- the word at a place of a case; 0 where the case ends before
abbrev pub word_at : List ℕ → ℕ → ℕ
word_at body at = cond (ltb (length body) (at + 4)) 0 (u32_at body at)

-- of a work area the first cells are 0, and the others keep the mark
abbrev pub zero_or_mark : {A : Type 0} → A → A → ℕ → ℕ → A
zero_or_mark zero kept count i = cond (ltb i count) zero kept

-- of an output the first cells have the case's first words, and the others keep the mark
abbrev pub word_or_mark : List ℕ → ℕ → ℕ → ℕ
word_or_mark body count i = cond (ltb i count) (word_at body (4 * i)) mark

-- two floats have the same bits; no NaN has any
unfoldable pub same_float : Float → Float → Bool
same_float x y = not (is_nan x) && (not (is_nan y) && eqb (to_bits binary64 x) (to_bits binary64 y))

-- some cell is not the same as what is wanted there
abbrev pub unlike : {A : Type 0} → (A → A → Bool) → A → (ℕ → A) → List A → Bool
unlike same past wanted cells = any_below (λ i. not (same (get_or cells i past) (wanted i))) (length cells)
