-- Lengths of a record's parts and where their fields stand (document 01, "The phrase record"), for readers, tests and writers.
use Rattle.std.specs.Prelude.{ℕ, ◌+◌, ◌*◌}
use Rattle.limits.specs.Common.{durations}

-- 1, stub: "record under 64 or over 65,536 bytes"; "The last 64 bytes are a trailer of sixteen u32"
abbrev pub trailer_bytes : ℕ
trailer_bytes = 64

abbrev pub record_bytes : ℕ
record_bytes = 65536

-- "The four lists: u32 frames", and the bytes of a list of n
abbrev pub list_bytes : ℕ → ℕ
list_bytes n = 4 * n

-- "Scores: f32, row by row, N + A rows of C columns"
abbrev pub score_bytes : ℕ → ℕ → ℕ → ℕ
score_bytes n a c = 4 * ((n + a) * c)

-- "Costs, 1,228 bytes: f64 per_frame and insertion_llr [..]; f32 unvoiced score [..]; u32 speech start and end [..]; two duration
-- tables of 75 f64": where each stands behind the block's first byte, which is that of per_frame.
abbrev pub insertion_at : ℕ
insertion_at = 8

abbrev pub unvoiced_at : ℕ
unvoiced_at = 16

abbrev pub speech_start_at : ℕ
speech_start_at = 20

abbrev pub speech_end_at : ℕ
speech_end_at = 24

abbrev pub first_table_at : ℕ
first_table_at = 28

abbrev pub table_bytes : ℕ
table_bytes = 8 * durations

abbrev pub second_table_at : ℕ
second_table_at = first_table_at + table_bytes

abbrev pub costs_bytes : ℕ
costs_bytes = second_table_at + table_bytes
