-- Document 01's worked example of spans ("Proved as a group").
use mathlib.Core.Path.{◌≡◌, refl}
use mathlib.Core.List.{[], ◌∷◌}
use Rattle.frames.specs.Frames.{highest_below, lowest_from, ascending_from}
use Rattle.spans.specs.Spans.{span_of, spans_of}

-- "nuclei 10, 13 with edges 5, 20 and no boundaries give 5..12, 12..20"
pub two_spans : spans_of (10 ∷ 13 ∷ []) [] 5 20 ≡ record { start = 5; end = 12 } ∷ record { start = 12; end = 20 } ∷ []
unfolding span_of ascending_from highest_below lowest_from
two_spans = refl
