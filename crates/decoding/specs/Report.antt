-- The units reported for a path (document 01, "Spans, marks and order"): "The units reported are the chosen path's, in path order, each
-- with its anchor's row or 4,294,967,295. A unit with an anchor reports its row's span, by its own stage's boundaries. One without reports
-- its path frames, then `clip_unanchored`."
use Rattle.std.specs.Prelude.{ℕ}
use mathlib.Core.List.{List, [], ◌∷◌, map, zip_with}
use Rattle.limits.specs.Common.{absent}
use Rattle.phrase.specs.Phrase.{Phrase, Stage, Speech, silent, spoken}
use Rattle.paths.specs.declared.passes.Pass.{Pass}
use Rattle.paths.specs.Path.{Path, Bounds, units_of}
use Rattle.paths.specs.Anchors.{Anchor, kept, held_in, row_or}
use Rattle.paths.specs.StageProblem.{boundary}
use Rattle.paths.specs.Passes.{pass_stage}
use Rattle.spans.specs.Spans.{span_of}
use Rattle.frames.specs.declared.span.Span.{Span}
use Rattle.clip.specs.Clip.{Placed, anchored, unanchored, reported}
use Rattle.entries.specs.Entry.{ReportedUnit}

-- "Speech start and end are the edges"; 0 without speech
abbrev pub low_edge : Speech → ℕ
low_edge silent = 0
low_edge (spoken start end) = start

abbrev pub high_edge : Speech → ℕ
high_edge silent = 0
high_edge (spoken start end) = end

-- "A unit with an anchor reports its row's span, by its own stage's boundaries": among all frames that the stage lists, since those
-- outside the mask are dropped from the search only.
unfoldable pub row_span : Phrase → Stage → ℕ → Span
unfolding span_of
row_span phrase stage frame = span_of stage.anchors stage.boundaries (low_edge phrase.speech) (high_edge phrase.speech) frame

-- the path frames of a unit, from boundary to boundary
abbrev pub path_span : Stage → Bounds → Span
path_span stage unit = record { start = boundary stage unit.first; end = boundary stage unit.last }

-- the anchors that a unit holds: one, or none in a relaxed pass
abbrev pub held_by : Phrase → Stage → Bounds → List Anchor
held_by phrase stage unit = held_in (kept phrase stage) (boundary stage unit.first) (boundary stage unit.last)

-- a unit before clipping, by the anchors that it holds
unfoldable pub placed_by : Phrase → Stage → Bounds → List Anchor → Placed
unfolding row_span
placed_by phrase stage unit [] = unanchored (path_span stage unit)
placed_by phrase stage unit (anchor ∷ more) = anchored (row_span phrase stage anchor.frame)

abbrev pub placed_unit : Phrase → Stage → Bounds → Placed
placed_unit phrase stage unit = placed_by phrase stage unit (held_by phrase stage unit)

-- a reported span with the row of the anchor that the unit holds
abbrev pub reported_unit : List Anchor → Span → ReportedUnit
reported_unit anchors span = record { start = span.start; end = span.end; row = row_or absent anchors }

-- the units of a stage, reported
unfoldable pub reported_in : Phrase → Stage → List Bounds → List ReportedUnit
unfolding held_in placed_by reported
reported_in phrase stage units = zip_with reported_unit (map (held_by phrase stage) units) (reported (map (placed_unit phrase stage) units))

-- the units of a path that a pass found, by "its own stage's boundaries"
abbrev pub reported_units : Phrase → Pass → Path → List ReportedUnit
reported_units phrase pass path = reported_in phrase (pass_stage phrase pass) (units_of path)
