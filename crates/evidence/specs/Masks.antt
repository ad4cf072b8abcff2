-- Masks: a byte for each frame, 1 where the frame has the mark.
use Rattle.std.specs.Prelude.{ℕ, zero, suc, ◌+◌, Bool, true, ◌&&◌, List, eqb, get_or}

-- a frame is within the mask and has the mark: past the mask's end `get_or` gives 0
abbrev pub marked : List ℕ → ℕ → Bool
marked mask frame = eqb (get_or mask frame 0) 1

-- so many frames from the first on "all exist and are 1"
unfoldable pub all_marked : List ℕ → ℕ → ℕ → Bool
all_marked mask first zero = true
all_marked mask first (suc n) = marked mask (first + n) && all_marked mask first n
