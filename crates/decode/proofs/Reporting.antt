-- From the units that the code places and clips to those that are to be reported.
use Prim.Native.Nat.{ℕ, suc, ◌≤◌, ◌<◌}
use mathlib.Core.Bool.{cond}
use mathlib.Core.List.{List, [], ◌∷◌, map, map-map, zip_with}
use mathlib.Core.Path.{◌≡◌, refl, ap, ap₂, ◌∙◌}
use native.Mathlib.Omega.{arith}
use lib.Dec.{ltb}
use lib.ListN.{length, get_or, length-map, get_or-map}
use Rattle.std.specs.Prelude.{Option, Some, None, unwrap_or}
use Rattle.laws.proofs.Listed.{table_at_law}
use Rattle.phrase.specs.Phrase.{Phrase, Stage}
use Rattle.paths.specs.declared.passes.Strictness.{Strictness}
use Rattle.paths.specs.Inner.Order.{Increasing}
use Rattle.paths.specs.Anchors.{Anchor, row_or}
use Rattle.paths.specs.declared.passes.Strictness.TheVariants.{Strict}
use Rattle.paths.specs.Path.{Bounds}
use Rattle.limits.specs.Capacity.{most_boundaries}
use Rattle.limits.specs.Common.{absent}
use Rattle.stages.specs.declared.stage_tables.StageTables.{StageTables as HeldTables}
use Rattle.stages.specs.Search.{no_span}
use Rattle.stages.specs.Tables.{StageTables, Tabled, tables_in}
use Rattle.rows.specs.declared.trace.Bounds.{Bounds as HeldBounds}
use Rattle.rows.specs.Traced.{held_bounds, no_bounds as no_held}
use Rattle.prepare.specs.Sides.{Prepared}
use Rattle.frames.specs.declared.span.Span.{Span}
use Rattle.frames.specs.declared.unit.PlacedUnit.{PlacedUnit}
use Rattle.clip.specs.Clip.{Placed, reported}
use Rattle.clip.specs.Inner.Units.{placed, Clipped}
use Rattle.entries.specs.Entry.{ReportedUnit}
use Rattle.entries.specs.Inner.EntryFrom.{unit_from}
use Rattle.decoding.specs.Report.{low_edge, high_edge, held_by, placed_unit, reported_unit, reported_in}
use Rattle.decode.specs.Places.{place_of, Placeable}
use Rattle.decoding.proofs.Admitted.{UnitOk, no_bounds}
use Rattle.decode.proofs.Placing.{row_of, place_in, placed_by_tables, told_by_row}

-- ---- units, one by one

-- what is reported of a row and a span
abbrev reported_as : Option ℕ → Span → ReportedUnit
reported_as row span = record { start = span.start; end = span.end; row = unwrap_or row absent }

reported_parts : (units : List PlacedUnit)
    → map unit_from units ≡ zip_with reported_as (map (λ unit. unit.row) units) (map (λ unit. unit.span) units)
unfolding zip_with
reported_parts [] = refl
reported_parts (unit ∷ units) = ap (λ (us : List ReportedUnit). unit_from unit ∷ us) (reported_parts units)

row_reported : (anchors : List Anchor) → unwrap_or (row_of anchors) absent ≡ row_or absent anchors
row_reported [] = refl
row_reported (anchor ∷ more) = refl

rows_reported : (held : Bounds → List Anchor) (bs : List Bounds) (spans : List Span)
    → zip_with reported_as (map (λ b. row_of (held b)) bs) spans ≡ zip_with reported_unit (map held bs) spans
unfolding zip_with
rows_reported held [] spans = refl
rows_reported held (b ∷ bs) [] = refl
rows_reported held (b ∷ bs) (span ∷ spans) =
    ap₂ (λ (row : ℕ) (us : List ReportedUnit). record { start = span.start; end = span.end; row = row } ∷ us) (row_reported (held b))
    (rows_reported held bs spans)

-- the same value for each unit of a list, by their numbers
same_at : {A : Type 0} (f g : Bounds → A) (bs : List Bounds)
    → ((i : ℕ) → i < length bs → f (get_or bs i no_bounds) ≡ g (get_or bs i no_bounds)) → map f bs ≡ map g bs
same_at f g [] same = refl
same_at f g (b ∷ bs) same = ap₂ (λ y ys. y ∷ ys) (same 0 (omega arith)) (same_at f g bs (λ i h. same (suc i) (omega arith)))

same_map : {A B : Type 0} (f g : A → B) → ((x : A) → f x ≡ g x) → (xs : List A) → map f xs ≡ map g xs
same_map f g same [] = refl
same_map f g same (x ∷ xs) = ap₂ (λ y ys. y ∷ ys) (same x) (same_map f g same xs)

-- ---- the units of a path through a stage

-- what is known of a stage's words and a path's units
pub record Found (phrase : Phrase) (stage : Stage) (strictness : Strictness) (tables : HeldTables) (bs : List Bounds) : Type 0 where
  pub prepared : Prepared phrase stage (low_edge phrase.speech) (high_edge phrase.speech) tables
  pub few_boundaries : length stage.boundaries ≤ most_boundaries
  pub up : Increasing stage.anchors
  pub bounds_up : Increasing stage.boundaries
  pub ok : (i : ℕ) → i < length bs → UnitOk phrase stage strictness (get_or bs i no_bounds)

module _ {phrase : Phrase} {stage : Stage} {strictness : Strictness} {tables : HeldTables} {bs : List Bounds}
    (f : Found phrase stage strictness tables bs) where
  abbrev t : StageTables
  t = tables_in (length stage.boundaries) tables.words tables.figures

  abbrev tabled : Tabled phrase stage t
  tabled = f.prepared.tables.tabled

  abbrev unit : ℕ → Bounds
  unit i = get_or bs i no_bounds

  in_tables : (i : ℕ) → i < length bs → (unit i).last < length stage.boundaries
  in_tables i h = (f.ok i h).inside

  held_at : (i : ℕ) → get_or (map held_bounds bs) i no_held ≡ held_bounds (unit i)
  held_at i = get_or-map held_bounds bs i no_bounds

  pub placeable : Placeable (map held_bounds bs)
  placeable = record {
    begins = λ i h.
        let below : i < length bs = omega (arith, length-map bs held_bounds) in
        omega (arith, ap (λ (b : HeldBounds). b.first) (held_at i), (f.ok i below).forward, in_tables i below, f.few_boundaries);
    ends = λ i h.
        let below : i < length bs = omega (arith, length-map bs held_bounds) in
        omega (arith, ap (λ (b : HeldBounds). b.last) (held_at i), in_tables i below, f.few_boundaries);
  }

  place_is : (i : ℕ) → i < length bs → place_of tables.words (held_bounds (unit i)) ≡ place_in phrase stage (unit i)
  unfolding place_of
  place_is i h =
      let inside : (unit i).last < length stage.boundaries = in_tables i h in
      let before : (unit i).first < length stage.boundaries = omega (arith, (f.ok i h).forward) in
      let from = tabled.bounded _ before in
      let to = tabled.bounded _ inside in
      let middle = tabled.ends Strict _ inside in
      let row = tabled.rows _ inside in
      let span =
      ap (λ (l : List Span). get_or l (unit i).last no_span) f.prepared.spans
      ∙ table_at_law _ (length stage.boundaries) most_boundaries no_span no_span _ inside in
      (λ x. cond (ltb (unit i).first (middle x)) (record { span = span x; row = Some (row x) })
      (record { span = record { start = from x; end = to x }; row = None }))
      ∙ placed_by_tables phrase stage f.up f.bounds_up (f.ok i h)

  placed_is : map (place_of tables.words) (map held_bounds bs) ≡ map (place_in phrase stage) bs
  placed_is = map-map (place_of tables.words) held_bounds bs ∙ same_at (λ b. place_of tables.words (held_bounds b)) (place_in phrase stage) bs place_is

  pub reports : {after : List PlacedUnit} → Clipped (map (place_of tables.words) (map held_bounds bs)) after
      → map unit_from after ≡ reported_in phrase stage bs
  unfolding reported_in
  reports {after} clipped =
      let spans : List Span = reported (map (placed_unit phrase stage) bs) in
      let told : map placed (map (place_of tables.words) (map held_bounds bs)) ≡ map (placed_unit phrase stage) bs =
      ap (map placed) placed_is ∙ map-map placed (place_in phrase stage) bs
      ∙ same_map (λ b. placed (place_in phrase stage b)) (placed_unit phrase stage) (λ b. told_by_row phrase stage b (held_by phrase stage b)) bs in
      reported_parts after
      ∙ ap₂ (zip_with reported_as) clipped.rows clipped.spans
      ∙ ap₂ (λ (rows : List (Option ℕ)) (units : List Placed). zip_with reported_as rows (reported units))
      (ap (map (λ unit. unit.row)) placed_is ∙ map-map (λ unit. unit.row) (place_in phrase stage) bs) told
      ∙ rows_reported (held_by phrase stage) bs spans
