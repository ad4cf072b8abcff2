-- Worked examples of texts and numbers as bytes.
use mathlib.Core.List.{[], ◌∷◌}
use mathlib.Core.Path.{◌≡◌, refl}
use Rattle.text.specs.Ascii.{ascii, decimal, hexadecimal}

letters : ascii "a z\n" ≡ 97 ∷ 32 ∷ 122 ∷ 10 ∷ []
letters = refl

nought : decimal 0 ≡ ascii "0"
unfolding decimal
nought = refl

zeros_inside : decimal 10020 ≡ ascii "10020"
unfolding decimal
zeros_inside = refl

largest : decimal 4294967295 ≡ ascii "4294967295"
unfolding decimal
largest = refl

zeros_in_front : hexadecimal 0x0012_abcf ≡ ascii "0012abcf"
unfolding hexadecimal
zeros_in_front = refl
