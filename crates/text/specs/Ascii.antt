-- Texts and numbers as bytes in ASCII.
use Rattle.std.specs.Prelude.{ℕ, zero, suc, ◌/◌, ◌%◌, cond, List, [], ◌∷◌, ◌++◌, ltb}
use Prim.Native.Char.{code}
use Prim.Native.String.{String}
use Rattle.io.specs.Digits.{hex_digit_ascii, last_digits}

abbrev pub ascii : String → List ℕ
ascii String.[] = []
ascii (String.◌∷◌ c s) = code c ∷ ascii s

-- A number's decimal digits in at most so many turns: the only digit, or those of a tenth of it and its last one.
unfoldable pub decimal_in : ℕ → ℕ → List ℕ
decimal_in zero n = []
decimal_in (suc turns) n =
    let more = decimal_in turns (n / 10) ++ (hex_digit_ascii (n % 10) ∷ []) in
    cond (ltb n 10) (hex_digit_ascii n ∷ []) more

-- in decimal, with no zeros in front; a number n has at most n + 1 digits
unfoldable pub decimal : ℕ → List ℕ
unfolding decimal_in
decimal n = decimal_in (suc n) n

-- in eight hexadecimal digits
unfoldable pub hexadecimal : ℕ → List ℕ
hexadecimal n = last_digits 16 8 n
