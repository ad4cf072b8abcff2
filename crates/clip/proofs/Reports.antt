-- Reporting one unit after another.
use Rattle.std.proofs.Common.{◌≡◌, ℕ, ◌<◌, ◌+◌, ◌≤◌, List, [], ◌∷◌, ◌++◌, map, take, drop, set, get_or, slice_get, length, refl, sym, ap, ap₂, ◌∙◌, Option, Some, None, arith, append_assoc, append-nil}
use Rattle.std.proofs.Math.ListN.{get_or-map}
use Rattle.std.specs.Option.{option_map_or}
use Rattle.std.proofs.lemmas.List.{map-set, set-get_or, take_more_set, drop-set-lt, at_drop_more, at_drop_all, map_push, take_all}
use Rattle.frames.specs.declared.span.Span.{Span}
use Rattle.frames.specs.declared.unit.PlacedUnit.{PlacedUnit}
use Rattle.clip.specs.Clip.{Placed, given, report, report_after, reported}
use Rattle.clip.specs.Inner.Units.{placed_as, placed}

given_start : (row : Option ℕ) (span : Span) → (given (placed_as row span)).start ≡ span.start
given_start None span = refl
given_start (Some row) span = refl

-- the first unit is reported from its own start on
pub reported_first : (units : List PlacedUnit)
    → report_after (option_map_or (λ unit. unit.span.start) (slice_get units 0) 0) (map placed units) ≡ reported (map placed units)
unfolding reported
reported_first [] = refl
reported_first (unit ∷ units) =
    ap (λ (low : ℕ). report_after low (map placed (unit ∷ units))) (sym (given_start unit.row unit.span))

abbrev spans_of : List PlacedUnit → List Span
spans_of = map (λ unit. unit.span)

-- The spans so far and those to come: one more unit reported changes nothing.
pub reported_more : (units : List PlacedUnit) (s low : ℕ) (d : PlacedUnit) (span : Span) → s < length units
    → span ≡ report low (placed (get_or units s d)) (map placed (drop (s + 1) units))
    → map (λ unit. unit.span) (take (s + 1) (set units s (record { span = span; row = (get_or units s d).row })))
    ++ report_after span.end (map placed (drop (s + 1) (set units s (record { span = span; row = (get_or units s d).row }))))
    ≡ map (λ unit. unit.span) (take s units) ++ report_after low (map placed (drop s units))
unfolding report_after
reported_more units s low d span below is =
    let unit : PlacedUnit = record { span = span; row = (get_or units s d).row } in
    let done : spans_of (take (s + 1) (set units s unit)) ≡ spans_of (take s units) ++ (span ∷ []) =
    ap spans_of (take_more_set units s unit below) ∙ map_push (λ u. u.span) (take s units) unit in
    let past : drop (s + 1) (set units s unit) ≡ drop (s + 1) units = drop-set-lt (s + 1) units s unit (omega arith) in
    let later : List Placed = map placed (drop (s + 1) units) in
    ap₂ (λ (x : List Span) (y : List PlacedUnit). x ++ report_after span.end (map placed y)) done past
    ∙ append_assoc (spans_of (take s units)) (span ∷ []) (report_after span.end later)
    ∙ ap (λ (x : Span). spans_of (take s units) ++ (x ∷ report_after x.end later)) is
    ∙ ap (λ (x : List Span). spans_of (take s units) ++ x) (sym (at_drop_more (λ us. report_after low (map placed us)) units s d below))

-- after the last unit nothing is to come
pub reported_all : (units : List PlacedUnit) (s low : ℕ) → length units ≤ s
    → map (λ unit. unit.span) units ≡ map (λ unit. unit.span) (take s units) ++ report_after low (map placed (drop s units))
unfolding report_after
reported_all units s low all =
    sym (append-nil (spans_of units))
    ∙ ap₂ (λ (x : List PlacedUnit) (y : List Span). spans_of x ++ y) (sym (take_all s units all))
    (sym (at_drop_all (λ us. report_after low (map placed us)) units s all))

-- another span in place of a unit's keeps every row
pub rows_kept : (units : List PlacedUnit) (s : ℕ) (d : PlacedUnit) (span : Span)
    → map (λ unit. unit.row) (set units s (record { span = span; row = (get_or units s d).row })) ≡ map (λ unit. unit.row) units
rows_kept units s d span =
    let rows : List (Option ℕ) = map (λ unit. unit.row) units in
    map-set (λ unit. unit.row) units s (record { span = span; row = (get_or units s d).row })
    ∙ ap (λ (row : Option ℕ). set rows s row) (sym (get_or-map (λ unit. unit.row) units s d))
    ∙ set-get_or rows s d.row
