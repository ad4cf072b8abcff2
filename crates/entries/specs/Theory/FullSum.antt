-- The full sum as a reader takes it from an entry's words (document 02, Ask 2).
use Rattle.std.specs.Prelude.{ℕ, ◌+◌, ◌*◌, ◌^◌, List, get_or}

-- the number whose "low and high halves" are two words
abbrev pub joined : ℕ → ℕ → ℕ
joined low high = low + 2 ^ 32 * high

-- "after the unit count", word 3: words 4 and 5 of the entry whose words stand at the front
abbrev pub sum_in : List ℕ → ℕ
sum_in words = joined (get_or words 4 0) (get_or words 5 0)
