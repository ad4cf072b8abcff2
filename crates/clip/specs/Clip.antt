-- Which spans are reported (document 01, "Spans, marks and order"): "A unit with an anchor reports its row's span [..]. One without
-- reports its path frames, then `clip_unanchored`." Clipping itself is the Rust's: "from the end of the previous syllable's final
-- span to the start of the next nucleus-holding syllable's, or an empty span at the nearest point of that gap".
use Rattle.std.specs.Prelude.{ℕ, min, max, List, [], ◌∷◌}
use Rattle.frames.specs.declared.span.Span.{Span}

-- A unit of a path: with an anchor, whose row has a span; or without one, by its path frames.
pub data Placed : Type 0 where
  anchored : Span → Placed
  unanchored : Span → Placed

-- the span that a unit comes with
abbrev pub given : Placed → Span
given (anchored row) = row
given (unanchored path) = path

-- the start of the next anchored unit's span, or another frame where there is none
unfoldable pub next_start : ℕ → List Placed → ℕ
next_start otherwise [] = otherwise
next_start otherwise (anchored row ∷ later) = row.start
next_start otherwise (unanchored path ∷ later) = next_start otherwise later

-- the nearest frame of a gap
abbrev pub nearest : ℕ → ℕ → ℕ → ℕ
nearest low high frame = min (max frame low) high

-- path frames clipped to the gap from `low` to `next`, which is empty where `next` is not above `low`
abbrev pub clipped : Span → ℕ → ℕ → Span
clipped path low next =
    let high = max next low in
    let start = nearest low high path.start in
    record { start = start; end = nearest start high path.end }

-- The span of a unit, where the one before it ends at `low`. Without an anchored unit after it the gap goes up to its own path end.
unfoldable pub report : ℕ → Placed → List Placed → Span
unfolding next_start
report low (anchored row) later = row
report low (unanchored path) later = clipped path low (next_start path.end later)

-- the spans of units in order, each against the final span of the one before
unfoldable pub report_after : ℕ → List Placed → List Span
unfolding report
report_after low [] = []
report_after low (unit ∷ later) = report low unit later ∷ report_after (report low unit later).end later

abbrev pub first_start : List Placed → ℕ
first_start [] = 0
first_start (unit ∷ later) = (given unit).start

-- The first unit has none before it: its gap begins at its own path start.
unfoldable pub reported : List Placed → List Span
unfolding report_after
reported units = report_after (first_start units) units
