-- Laws of a span's edges: beside no neighbour, beside one that overlaps, and beside one that does not.
use Prim.Native.Nat.{ℕ, ◌≤◌, ◌<◌}
use mathlib.Core.Path.{◌≡◌}
use mathlib.Core.List.{List}
use borrow.Author.Tests.{lt-ltb, le-ltb}
use Rattle.spans.specs.Spans.{uncut_start, uncut_end, cut, start_beside, end_beside}
use Rattle.std.specs.Prelude.{Option, Some, None}

-- s is the uncut start of the right frame and e the uncut end of the left one
module _ (bounds : List ℕ) (lo hi : ℕ) {near : Option ℕ} where
  pub start_whole : (f : ℕ) → near ≡ None → start_beside bounds lo hi near f ≡ uncut_start bounds lo f
  start_whole f none = rw none

  pub end_whole : (f : ℕ) → near ≡ None → end_beside bounds lo hi f near ≡ uncut_end bounds hi f
  end_whole f none = rw none

  module _ (left right s e : ℕ) (starts : s ≡ uncut_start bounds lo right) (ends : e ≡ uncut_end bounds hi left) where
    pub start_cut : near ≡ Some left → s < e → start_beside bounds lo hi near right ≡ cut left right
    start_cut there h = rw (there, ← starts, ← ends, lt-ltb s e h)

    pub end_cut : near ≡ Some right → s < e → end_beside bounds lo hi left near ≡ cut left right
    end_cut there h = rw (there, ← starts, ← ends, lt-ltb s e h)

    pub start_kept : near ≡ Some left → e ≤ s → start_beside bounds lo hi near right ≡ s
    start_kept there h = rw (there, ← starts, ← ends, le-ltb s e h)

    pub end_kept : near ≡ Some right → e ≤ s → end_beside bounds lo hi left near ≡ e
    end_kept there h = rw (there, ← starts, ← ends, le-ltb s e h)
