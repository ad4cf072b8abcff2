-- Words at the front of bytes, the lowest byte first.
use Rattle.std.specs.Prelude.{ℕ, cond, List, ltb, length, take}
use Rattle.std.specs.Int.{w32, from_le_bytes}

-- 0 where the bytes end before
abbrev pub front_word : List ℕ → ℕ
front_word bytes = cond (ltb (length bytes) 4) 0 (from_le_bytes w32 (take 4 bytes))
