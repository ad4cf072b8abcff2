-- Lists of frames in order.
use Rattle.std.specs.Prelude.{ℕ, suc, ◌<◌, List, length, get_or}

-- A list of frames in strictly increasing order, which number 5 asks of the four lists.
abbrev pub Increasing : List ℕ → Type 0
Increasing frames = (i : ℕ) → suc i < length frames → get_or frames i 0 < get_or frames (suc i) 0
