-- The conditions of document 01's table "What the decoder says no with", one by one. Those up to 4 speak of the trailer; the others of the
-- bytes where the layout finds them.
use Rattle.std.specs.Prelude.{ℕ, ◌+◌, ◌-◌, ◌*◌, Bool, not, ◌&&◌, ◌||◌, List, length, ltb, leb, eqb, pos, Float}
use Rattle.std.specs.Float.{binary32, binary64}
use Rattle.std.specs.Float.Ieee.{neg, of_bits, of_int}
use Rattle.limits.specs.Sizes.{count_at, columns_at, candidate_bytes, entry_words, work_cells}
use Rattle.record.specs.Bytes.{byte_at, u32_at, u64_at}
use Rattle.record.specs.Below.{any_below}
use Rattle.ieee.specs.Range.{between, within}
use Rattle.limits.specs.Common.{last_frame, absent, durations, million, thousand}
use Rattle.record.specs.Format.{trailer_bytes, record_bytes, list_bytes, score_bytes, costs_bytes, insertion_at, unvoiced_at, speech_start_at, speech_end_at, first_table_at, second_table_at}
use Rattle.limits.specs.declared.edition.Limits.{Limits}
use Rattle.record.specs.declared.trailer.Trailer.{Trailer}
use Rattle.record.specs.declared.layout.Section.{Section}
use Rattle.record.specs.declared.layout.Layout.{Layout}

-- ---- 1 to 4: size, edition, counts and pointers

-- 1, stub: "record under 64 or over 65,536 bytes"
abbrev pub stub : List ℕ → Bool
stub bytes = ltb (length bytes) trailer_bytes || ltb record_bytes (length bytes)

-- 2, edition: "edition field is not 1"
abbrev pub other_edition : Limits → Trailer → Bool
other_edition l t = not (eqb t.edition l.edition)

-- 3, size: "a count over its limit, C = 0, or A = 0 with D above 0"
unfoldable pub oversized : Limits → Trailer → Bool
oversized l t =
    ltb l.frames t.mask.count
    || ltb l.nuclei t.nuclei.count
    || ltb l.boundaries t.boundaries.count
    || ltb l.anchors t.added_anchors.count
    || ltb l.boundaries t.added_boundaries.count
    || ltb l.columns t.scores.count
    || ltb l.candidates t.candidates.count
    || eqb t.scores.count 0
    || (eqb t.added_anchors.count 0 && ltb 0 t.added_boundaries.count)

-- 4, reach: "a section not wholly before the trailer". A back pointer "must be at least the section's length and at most the bytes before the trailer".
abbrev pub outside : ℕ → ℕ → ℕ → Bool
outside end bytes back = ltb back bytes || ltb end back

unfoldable pub overreaching : Limits → ℕ → Trailer → Bool
overreaching l end t =
    outside end t.mask.count t.mask.back
    || outside end (list_bytes t.nuclei.count) t.nuclei.back
    || outside end (list_bytes t.boundaries.count) t.boundaries.back
    || outside end (list_bytes t.added_anchors.count) t.added_anchors.back
    || outside end (list_bytes t.added_boundaries.count) t.added_boundaries.back
    || outside end (score_bytes t.nuclei.count t.added_anchors.count t.scores.count) t.scores.back
    || outside end (candidate_bytes l * t.candidates.count) t.candidates.back
    || outside end costs_bytes t.costs

-- ---- 5, track: "mask byte above 1; list not strictly increasing; frame above 4,095; bad speech edges"

abbrev pub bad_mask : List ℕ → Section → Bool
bad_mask bytes s = any_below (λ i. ltb 1 (byte_at bytes (s.start + i))) s.count

-- frame i of a list
abbrev pub frame_at : List ℕ → Section → ℕ → ℕ
frame_at bytes s i = u32_at bytes (s.start + 4 * i)

abbrev pub late_frame : List ℕ → Section → Bool
late_frame bytes s = any_below (λ i. ltb last_frame (frame_at bytes s i)) s.count

abbrev pub unordered : List ℕ → Section → Bool
unordered bytes s = any_below (λ i. leb (frame_at bytes s (i + 1)) (frame_at bytes s i)) (s.count - 1)

abbrev pub bad_list : List ℕ → Section → Bool
bad_list bytes s = late_frame bytes s || unordered bytes s

-- "u32 speech start and end (both 4,294,967,295 for no speech, else start ≤ end ≤ 4,095)"
abbrev pub speech_start : List ℕ → ℕ → ℕ
speech_start bytes costs = u32_at bytes (costs + speech_start_at)

abbrev pub speech_end : List ℕ → ℕ → ℕ
speech_end bytes costs = u32_at bytes (costs + speech_end_at)

abbrev pub bad_edges : ℕ → ℕ → Bool
bad_edges start end = not (eqb start absent && eqb end absent) && (ltb end start || ltb last_frame end)

unfoldable pub bad_track : List ℕ → Layout → Bool
bad_track bytes at =
    bad_mask bytes at.mask
    || bad_list bytes at.nuclei
    || bad_list bytes at.boundaries
    || bad_list bytes at.added_anchors
    || bad_list bytes at.added_boundaries
    || bad_edges (speech_start bytes at.costs) (speech_end bytes at.costs)

-- ---- 6, cost: "a float not finite or outside its range"

abbrev pub f32_at : List ℕ → ℕ → Float
f32_at bytes at = of_bits binary32 (u32_at bytes at)

abbrev pub f64_at : List ℕ → ℕ → Float
f64_at bytes at = of_bits binary64 (u64_at bytes at)

-- "Scores: f32, row by row, N + A rows of C columns, each within ±1,000,000"
abbrev pub bad_scores : List ℕ → ℕ → ℕ → Bool
bad_scores bytes start entries = any_below (λ i. not (within million (f32_at bytes (start + 4 * i)))) entries

-- "f64 per_frame and insertion_llr (each within ±1,000); f32 unvoiced score (±1,000,000)"
abbrev pub bad_figures : List ℕ → ℕ → Bool
bad_figures bytes costs =
    not (within thousand (f64_at bytes costs)) || not (within thousand (f64_at bytes (costs + insertion_at))) || not (within million (f32_at bytes (costs + unvoiced_at)))

-- "two duration tables of 75 f64 for 6 to 80 frames, each entry from −1,000,000 to 0 (either zero)". A zero is `of_int binary64 (pos 0)`.
-- Where the two tables start in the record:
abbrev pub first_table : ℕ → ℕ
first_table costs = costs + first_table_at

abbrev pub second_table : ℕ → ℕ
second_table costs = costs + second_table_at

abbrev pub is_duration : Float → Bool
is_duration = between (neg million) (of_int binary64 (pos 0))

abbrev pub bad_table : List ℕ → ℕ → Bool
bad_table bytes table = any_below (λ i. not (is_duration (f64_at bytes (table + 8 * i)))) durations

-- "The second table belongs to the added stage and is unchecked where A = 0."
unfoldable pub bad_cost : List ℕ → Layout → Bool
bad_cost bytes at =
    bad_scores bytes at.scores.start ((at.nuclei.count + at.added_anchors.count) * at.scores.count)
    || bad_figures bytes at.costs
    || bad_table bytes (first_table at.costs)
    || (ltb 0 at.added_anchors.count && bad_table bytes (second_table at.costs))

-- ---- 7 to 10: candidates. "Candidate, 24 bytes: u32 id, u32 unit count k, sixteen column bytes of which the first k are used."

-- 7, bare: "no candidates"
abbrev pub bare : Layout → Bool
bare at = eqb at.candidates.count 0

-- where candidate i stands
abbrev pub candidate_start : Limits → Layout → ℕ → ℕ
candidate_start l at i = at.candidates.start + candidate_bytes l * i

abbrev pub id_at : Limits → List ℕ → Layout → ℕ → ℕ
id_at l bytes at i = u32_at bytes (candidate_start l at i)

abbrev pub units_at : Limits → List ℕ → Layout → ℕ → ℕ
units_at l bytes at i = u32_at bytes (candidate_start l at i + count_at)

abbrev pub column_at : Limits → List ℕ → Layout → ℕ → ℕ → ℕ
column_at l bytes at i j = byte_at bytes (candidate_start l at i + columns_at + j)

-- 8, twice: "id of an earlier candidate"
abbrev pub repeated : Limits → List ℕ → Layout → ℕ → Bool
repeated l bytes at i = any_below (λ j. eqb (id_at l bytes at j) (id_at l bytes at i)) i

-- 9, units: "unit count 0 or above 16"
abbrev pub bad_units : Limits → List ℕ → Layout → ℕ → Bool
bad_units l bytes at i = eqb (units_at l bytes at i) 0 || ltb l.units (units_at l bytes at i)

-- 10, column: "a used column number is C or more"
abbrev pub bad_column : Limits → List ℕ → Layout → ℕ → Bool
bad_column l bytes at i = any_below (λ j. leb at.scores.count (column_at l bytes at i j)) (units_at l bytes at i)

-- ---- 11, desk: "a lent buffer too short". The lengths of the two work areas and of the output, in elements.
abbrev pub short_desk : Limits → ℕ → ℕ → ℕ → ℕ → Bool
short_desk l candidates best back out = ltb best (work_cells l) || ltb back (work_cells l) || ltb out (candidates * entry_words l.units)
