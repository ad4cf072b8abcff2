-- Document 01's sample phrase as a record: the sections in trailer order, an empty one pointing to its place, 1,376 bytes.
use Rattle.std.specs.Prelude.{ℕ, List, ◌++◌, replicate}
use Rattle.record.specs.Bytes.{bytes_of32, bytes_of64}

-- "Mask of 20 ones; nucleus 7; boundaries 4, 14; A = D = 0; C = 1, score 3"
abbrev pub sample_track : List ℕ
sample_track = replicate 20 1 ++ bytes_of32 7 ++ bytes_of32 4 ++ bytes_of32 14 ++ bytes_of32 0x40400000

-- "Candidates 9 (two units), then 3 (one), all column 0"
abbrev pub sample_candidates : List ℕ
sample_candidates = bytes_of32 9 ++ bytes_of32 2 ++ replicate 16 0 ++ bytes_of32 3 ++ bytes_of32 1 ++ replicate 16 0

-- "per_frame 0.5; insertion_llr −2; unvoiced −4; speech 4 to 14; duration entry for 10 frames −0.25, others 0"
abbrev pub sample_costs : List ℕ
sample_costs =
    bytes_of64 0x3fe0_0000_0000_0000
    ++ bytes_of64 0xc000_0000_0000_0000
    ++ bytes_of32 0xc080_0000
    ++ bytes_of32 4
    ++ bytes_of32 14
    ++ replicate 32 0
    ++ bytes_of64 0xbfd0_0000_0000_0000
    ++ replicate 1160 0

abbrev pub sample_trailer : List ℕ
sample_trailer =
    bytes_of32 1
    ++ bytes_of32 20
    ++ bytes_of32 1312
    ++ bytes_of32 1
    ++ bytes_of32 1292
    ++ bytes_of32 2
    ++ bytes_of32 1288
    ++ bytes_of32 0
    ++ bytes_of32 1280
    ++ bytes_of32 0
    ++ bytes_of32 1280
    ++ bytes_of32 1
    ++ bytes_of32 1280
    ++ bytes_of32 2
    ++ bytes_of32 1276
    ++ bytes_of32 1228

unfoldable pub sample : List ℕ
sample = sample_track ++ sample_candidates ++ sample_costs ++ sample_trailer
