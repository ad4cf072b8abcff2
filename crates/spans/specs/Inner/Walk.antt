-- What a walk over the frames and boundaries of a stage asks and hands on, where both ascend: how many boundaries are below a frame, and
-- the cut of the edges of a list of spans.
use Rattle.std.specs.Prelude.{ℕ, zero, suc, ◌+◌, ◌≤◌, ◌<◌, ◌^◌, cond, List, map, ltb, length, get_or}
use Rattle.frames.specs.declared.span.Span.{Span}
use Rattle.spans.specs.Spans.{uncut_start, uncut_end, cut}

-- each frame above the one before it
abbrev pub Increasing : List ℕ → Type 0
Increasing frames = (i : ℕ) → suc i < length frames → get_or frames i 0 < get_or frames (suc i) 0

-- the frames and boundaries of a stage, both ascending, and a list with room for a span of each frame
pub record Walkable (frames bounds : List ℕ) (spans : List Span) : Type 0 where
  pub frames_up : Increasing frames
  pub bounds_up_law : Increasing bounds
  pub small : (i : ℕ) → i < length frames → get_or frames i 0 + 1 < 2 ^ 32
  pub room : length frames ≤ length spans

-- the frames before a place are below f
pub record Below (frames : List ℕ) (f at : ℕ) : Type 0 where
  pub within : at ≤ length frames
  pub each : (i : ℕ) → i < at → get_or frames i 0 < f

-- and the frame at that place, where there is one, is not
pub record Splits (frames : List ℕ) (f at : ℕ) : Type 0 where
  pub front : Below frames f at
  pub rest : at < length frames → f ≤ get_or frames at 0

-- the edges of a list of spans
abbrev pub starts_of : List Span → List ℕ
starts_of spans = map (λ s. s.start) spans

abbrev pub ends_of : List Span → List ℕ
ends_of spans = map (λ s. s.end) spans

-- a span by the boundaries alone
abbrev pub uncut_span : List ℕ → ℕ → ℕ → ℕ → Span
uncut_span bounds lo hi f = record { start = uncut_start bounds lo f; end = uncut_end bounds hi f }

-- an edge between frames i and i + 1: the cut where the end and the start that the two lists hold there overlap, else the edge as it is
abbrev pub met_at : List ℕ → List ℕ → List ℕ → ℕ → ℕ → ℕ
met_at frames starts ends i edge = cond (ltb (get_or starts (suc i) 0) (get_or ends i 0)) (cut (get_or frames i 0) (get_or frames (suc i) 0)) edge

unfoldable pub cut_start : List ℕ → List ℕ → List ℕ → ℕ → ℕ
cut_start frames starts ends zero = get_or starts zero 0
cut_start frames starts ends (suc i) = met_at frames starts ends i (get_or starts (suc i) 0)

unfoldable pub cut_end : List ℕ → List ℕ → List ℕ → ℕ → ℕ
cut_end frames starts ends i = cond (ltb (suc i) (length frames)) (met_at frames starts ends i (get_or ends i 0)) (get_or ends i 0)

-- both edges of a span, cut
abbrev pub cut_span : List ℕ → List Span → ℕ → Span
cut_span frames spans i =
    record { start = cut_start frames (starts_of spans) (ends_of spans) i; end = cut_end frames (starts_of spans) (ends_of spans) i }
