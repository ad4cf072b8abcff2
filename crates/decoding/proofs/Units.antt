-- As many units are reported as the candidate has.
use Prim.Native.Nat.{ℕ, suc}
use mathlib.Core.List.{List, [], ◌∷◌, map, zip_with}
use mathlib.Core.Path.{◌≡◌, refl, ap, ◌∙◌}
use native.Mathlib.Omega.{arith}
use lib.ListN.{length, length-map, length-replicate}
use Rattle.frames.specs.declared.span.Span.{Span}
use Rattle.clip.specs.Clip.{Placed, report, reported, report_after}
use Rattle.phrase.specs.Phrase.{Phrase, Stage}
use Rattle.paths.specs.Path.{Bounds, units_of}
use Rattle.paths.specs.Anchors.{Anchor}
use Rattle.paths.specs.Demand.{Answer, Demanded, a_path, no_path, no_nucleus}
use Rattle.paths.proofs.PathUnits.{units_count}
use Rattle.decoding.specs.Report.{held_by, placed_unit, reported_unit, reported_in}
use Rattle.decoding.specs.EntryOf.{units_for}

length_report_after : (low : ℕ) (units : List Placed) → length (report_after low units) ≡ length units
unfolding report_after
length_report_after low [] = refl
length_report_after low (unit ∷ later) = ap suc (length_report_after (report low unit later).end later)

pub length_reported : (units : List Placed) → length (reported units) ≡ length units
unfolding reported
length_reported [] = refl
length_reported (unit ∷ later) = length_report_after _ (unit ∷ later)

length_zip : (held : Bounds → List Anchor) (units : List Bounds) (spans : List Span) → length spans ≡ length units
    → length (zip_with reported_unit (map held units) spans) ≡ length units
unfolding zip_with
length_zip held [] spans e = refl
length_zip held (unit ∷ units) [] e = e
length_zip held (unit ∷ units) (span ∷ spans) e = ap suc (length_zip held units spans (omega arith))

pub length_reported_in : (phrase : Phrase) (stage : Stage) (units : List Bounds) → length (reported_in phrase stage units) ≡ length units
unfolding reported_in
length_reported_in phrase stage units =
    length_zip (held_by phrase stage) units _
    (length_reported (map (placed_unit phrase stage) units) ∙ length-map units (placed_unit phrase stage))

pub length_units : {phrase : Phrase} {columns : List ℕ} {answer : Answer} → Demanded phrase columns answer
    → length (units_for phrase (length columns) answer) ≡ length columns
length_units (a_path {path = path} found) = length_reported_in _ _ (units_of path) ∙ units_count path ∙ found.best.counted
length_units {columns = columns} (no_path nucleus none) = length-replicate (length columns) _
length_units {columns = columns} (no_nucleus none) = length-replicate (length columns) _
