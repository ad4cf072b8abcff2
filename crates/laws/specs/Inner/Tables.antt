-- Lists of a fixed length, and lists written over the front of others.
use Rattle.std.specs.Prelude.{ℕ, ◌-◌, List, ◌++◌, length, replicate, drop}
use Rattle.laws.specs.Listed.{listed}

-- a list, then the spare value, `size` entries in all
unfoldable pub padded {ℓ} : {A : Type ℓ} → List A → ℕ → A → List A
padded xs size spare = xs ++ replicate (size - length xs) spare

-- the values of a function at the first n numbers, then the spare value
abbrev pub table_of {ℓ} : {A : Type ℓ} → (ℕ → A) → ℕ → ℕ → A → List A
table_of f n size spare = padded (listed f n) size spare

-- the values of a function at the first n numbers, written over the front of a list
abbrev pub written {ℓ} : {A : Type ℓ} → (ℕ → A) → ℕ → List A → List A
written f n old = listed f n ++ drop n old
