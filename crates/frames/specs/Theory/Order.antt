-- Spans that run in order without overlapping.
use Rattle.std.specs.Prelude.{ℕ, ◌≤◌, ◌<◌, List, [], ◌∷◌}
use Rattle.frames.specs.declared.span.Span.{Span}

-- Frames that ascend, each once.
pub data Rises : List ℕ → Type 0 where
  none : Rises []
  one : {x : ℕ} → Rises (x ∷ [])
  more : {x y : ℕ} {ys : List ℕ} → x < y → Rises (y ∷ ys) → Rises (x ∷ y ∷ ys)

-- spans from a frame on, each starting where the one before ends or later
abbrev pub InOrder : ℕ → List Span → Type 0
InOrder low [] = Unit {0}
InOrder low (span ∷ spans) = (low ≤ span.start) × (span.start ≤ span.end) × InOrder span.end spans
