-- The frames that counts run between, and the speech before them.
use Rattle.std.specs.Prelude.{ℕ, List, length, get_or}
use Rattle.paths.specs.Frames.{speech_in}

-- boundary j, or a last frame after the boundaries
abbrev pub edge : List ℕ → ℕ → ℕ → ℕ
edge bounds last j = get_or bounds j last

-- the speech count up to boundary j, or after the boundaries up to the mask's end
abbrev pub speech_before : List ℕ → List ℕ → ℕ → ℕ
speech_before mask bounds j = speech_in mask 0 (edge bounds (length mask) j)
