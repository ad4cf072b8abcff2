-- Little-endian numbers in a list of bytes (document 01, "The phrase record": "Little-endian"): read and written. Bytes past the end
-- read as 0, so that every reader is total.
use Rattle.std.specs.Prelude.{ℕ, ◌+◌, ◌*◌, ◌/◌, ◌%◌, List, [], ◌∷◌, ◌++◌, get_or}

abbrev pub byte_at : List ℕ → ℕ → ℕ
byte_at bytes at = get_or bytes at 0

unfoldable pub u32_at : List ℕ → ℕ → ℕ
u32_at bytes at = byte_at bytes at + 256 * byte_at bytes (at + 1) + 65536 * byte_at bytes (at + 2) + 16777216 * byte_at bytes (at + 3)

unfoldable pub u64_at : List ℕ → ℕ → ℕ
u64_at bytes at = u32_at bytes at + 4294967296 * u32_at bytes (at + 4)

-- the four bytes of a u32 and the eight of a u64; of a larger number the lowest
abbrev pub bytes_of32 : ℕ → List ℕ
bytes_of32 n = n % 256 ∷ n / 256 % 256 ∷ n / 65536 % 256 ∷ n / 16777216 % 256 ∷ []

abbrev pub bytes_of64 : ℕ → List ℕ
bytes_of64 n = bytes_of32 n ++ bytes_of32 (n / 4294967296)
