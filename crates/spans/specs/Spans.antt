-- Unit spans, `tbu_spans` (document 01, "Spans, marks and order"). The two lists may stand in any order.
use Rattle.std.specs.Prelude.{ℕ, ◌+◌, ◌-◌, ◌*◌, ◌/◌, min, max, ◌||◌, cond, List, [], ◌∷◌, ◌++◌, map, ◌≡◌, ltb, length, drop, Option, Some, None, unwrap_or, Result}
use Rattle.limits.specs.Common.{last_frame}
use Rattle.limits.specs.declared.refusal.Refusal.{Refusal}
use Rattle.laws.specs.Rules.{rule}
use Rattle.frames.specs.Outcome.{Outcome, accepted, refused, outcome, checked, any_above, most_frames}
use Rattle.frames.specs.Frames.{highest_below, lowest_from, ascending}
use Rattle.frames.specs.declared.span.Span.{Span}

-- "start is the highest boundary below the nucleus, else min(low edge, nucleus)"
abbrev pub uncut_start : List ℕ → ℕ → ℕ → ℕ
uncut_start bounds lo f = unwrap_or (highest_below f bounds) (min lo f)

-- "end is the lowest above, else max(high edge, nucleus + 1)"
abbrev pub uncut_end : List ℕ → ℕ → ℕ → ℕ
uncut_end bounds hi f = unwrap_or (lowest_from (f + 1) bounds) (max hi (f + 1))

-- "left + ceiling((right − left) / 2)"
abbrev pub cut : ℕ → ℕ → ℕ
cut left right = left + (right - left + 1) / 2

-- "Where neighbours overlap both edges become" the cut: the start of f's span beside its left neighbour, and its end beside
-- its right neighbour
abbrev pub start_beside : List ℕ → ℕ → ℕ → Option ℕ → ℕ → ℕ
start_beside bounds lo hi None f = uncut_start bounds lo f
start_beside bounds lo hi (Some left) f =
    cond (ltb (uncut_start bounds lo f) (uncut_end bounds hi left)) (cut left f) (uncut_start bounds lo f)

abbrev pub end_beside : List ℕ → ℕ → ℕ → ℕ → Option ℕ → ℕ
end_beside bounds lo hi f None = uncut_end bounds hi f
end_beside bounds lo hi f (Some right) =
    cond (ltb (uncut_start bounds lo right) (uncut_end bounds hi f)) (cut f right) (uncut_end bounds hi f)

-- the span of one frame among its stage's frames and boundaries
unfoldable pub span_of : List ℕ → List ℕ → ℕ → ℕ → ℕ → Span
span_of frames bounds lo hi f =
    record {
      start = start_beside bounds lo hi (highest_below f frames) f;
      end = end_beside bounds lo hi f (lowest_from (f + 1) frames);
    }

-- "one span for each distinct nucleus, ascending"
abbrev pub spans_of : List ℕ → List ℕ → ℕ → ℕ → List Span
spans_of nuclei bounds lo hi = map (span_of nuclei bounds lo hi) (ascending nuclei)

-- "as two u32 words, start and end"
unfoldable pub words_of : List Span → List ℕ
words_of [] = []
words_of (s ∷ ss) = s.start ∷ s.end ∷ words_of ss

-- "each list at most 64 frames (3), no frame or edge above 4,095 (5) [..]; the count of spans is returned, and an output with
-- fewer words than that needs is 11"
unfoldable pub tbu_spans_of : List ℕ → List ℕ → ℕ → ℕ → ℕ → Outcome ℕ
tbu_spans_of nuclei bounds lo hi room =
    checked
    (rule 3 (ltb most_frames (length nuclei) || ltb most_frames (length bounds))
    ∷ rule 5 (any_above last_frame nuclei || any_above last_frame bounds || ltb last_frame lo || ltb last_frame hi)
    ∷ rule 11 (ltb room (2 * length (ascending nuclei)))
    ∷ [])
    (length (ascending nuclei))

-- words from the output's first cell on, and "cells beyond are untouched"
abbrev pub overwritten : List ℕ → List ℕ → List ℕ
overwritten words out = words ++ drop (length words) out

-- the words of an accepted call; on a refusal the output as it was
abbrev pub written : Outcome ℕ → List ℕ → List ℕ → List ℕ
written (accepted n) words out = overwritten words out
written (refused n) words out = out

-- What `tbu_spans` promises of its answer and of the output.
pub record Answers (nuclei bounds : List ℕ) (lo hi : ℕ) (before : List ℕ) (answer : Result ℕ Refusal) (after : List ℕ) : Type 0 where
  pub answered : outcome answer ≡ tbu_spans_of nuclei bounds lo hi (length before)
  pub output : after ≡ written (outcome answer) (words_of (spans_of nuclei bounds lo hi)) before
