-- The units that the tables of a stage place are the ones to report.
use Prim.Native.Nat.{ℕ, ◌≤◌, ◌<◌}
use mathlib.Core.Bool.{Bool, true, false, cond}
use mathlib.Core.List.{List, [], ◌∷◌}
use mathlib.Core.Path.{◌≡◌, refl, sym, ap, subst, ◌∙◌}
use native.Mathlib.Omega.{arith}
use borrow.Author.Tests.{lt-ltb, le-ltb}
use lib.Dec.{T, ltb}
use lib.ListN.{length}
use Rattle.laws.proofs.Numbers.{by_order}
use Rattle.phrase.specs.Phrase.{Phrase, Stage}
use Rattle.paths.specs.declared.passes.Strictness.{Strictness}
use Rattle.paths.specs.declared.passes.Strictness.TheVariants.{Strict, Relaxed}
use Rattle.paths.specs.Inner.Order.{Increasing}
use Rattle.paths.specs.Anchors.{Anchor, kept}
use Rattle.paths.specs.Inner.Ranges.{goes_to, origins_end, before, last_of, row_before}
use Rattle.paths.specs.StageProblem.{boundary}
use Rattle.paths.specs.Path.{Bounds}
use Rattle.paths.proofs.Rising.{Rising, kept_rising}
use Rattle.paths.proofs.Ranges.{any_relaxed, held_in_range, one_in_range}
use Rattle.frames.specs.declared.span.Span.{Span}
use Rattle.prepare.specs.Sides.{anchor_span, span_before}
use Rattle.clip.specs.Clip.{given}
use Rattle.decoding.specs.Report.{low_edge, high_edge, path_span, row_span, held_by, placed_by}
use Rattle.decoding.proofs.Admitted.{UnitOk}
use Rattle.frames.specs.declared.unit.PlacedUnit.{PlacedUnit}
use Rattle.clip.specs.Inner.Units.{placed}
use Rattle.std.specs.Prelude.{Option, Some, None}

-- the row of the first of some anchors
abbrev pub row_of : List Anchor → Option ℕ
row_of [] = None
row_of (anchor ∷ more) = Some anchor.row

-- a unit as it stands before clipping, by the anchors that it holds
abbrev pub place_for : Phrase → Stage → Bounds → List Anchor → PlacedUnit
place_for phrase stage unit anchors = record { span = given (placed_by phrase stage unit anchors); row = row_of anchors }

abbrev pub place_in : Phrase → Stage → Bounds → PlacedUnit
place_in phrase stage unit = place_for phrase stage unit (held_by phrase stage unit)

module _ (phrase : Phrase) (stage : Stage) (up : Increasing stage.anchors) (bounds_up : Increasing stage.boundaries) where
  module _ {strictness : Strictness} {unit : Bounds} (ok : UnitOk phrase stage strictness unit) where
    -- one past the last origin of the units into its last boundary that hold an anchor, and the last kept anchor before that boundary
    abbrev middle : ℕ
    middle = origins_end Strict (kept phrase stage) stage.boundaries unit.last

    abbrev last_before : List Anchor
    last_before = last_of (before (kept phrase stage) (boundary stage unit.last))

    rising : Rising 0 (kept phrase stage)
    rising = kept_rising phrase.mask stage.first_row stage.anchors up

    relaxed : T (goes_to Relaxed (kept phrase stage) stage.boundaries unit.last unit.first)
    relaxed = any_relaxed (kept phrase stage) stage.boundaries unit.first unit.last strictness ok.admitted

    held_as : (b : Bool) → ltb unit.first middle ≡ b → held_by phrase stage unit ≡ cond b last_before []
    held_as b e =
        held_in_range (kept phrase stage) stage.boundaries rising bounds_up unit.first unit.last ok.forward ok.inside relaxed
        ∙ ap (λ (c : Bool). cond c last_before []) e

    -- what holds of no anchor where the unit does not start before the middle, and else of the last one before its end, holds of the
    -- anchors held
    pub held_either :
        (P : List Anchor → Type 0) → (middle ≤ unit.first → P []) →
        ((anchor : Anchor) → last_before ≡ anchor ∷ [] → unit.first < middle → P (anchor ∷ [])) →
        P (held_by phrase stage unit)
    held_either P none one =
        by_order unit.first middle
        (λ less.
        let is = held_as true (lt-ltb unit.first middle less) in
        let alone =
        one_in_range (kept phrase stage) stage.boundaries rising bounds_up unit.first unit.last ok.forward
        ok.inside relaxed less in
        subst P (sym is) (single last_before refl (sym (ap length is) ∙ alone) less))
        (λ more. subst P (sym (held_as false (le-ltb unit.first middle more))) (none more))
      where
        single : (l : List Anchor) → last_before ≡ l → length l ≡ 1 → unit.first < middle → P last_before
        single [] e n less = absurd (omega arith)
        single (anchor ∷ []) e n less = subst P (sym e) (one anchor e less)
        single (anchor ∷ next ∷ l) e n less = absurd (omega arith)

    abbrev span_there : Span
    span_there = span_before phrase stage (low_edge phrase.speech) (high_edge phrase.speech) unit.last

    abbrev from_tables : Bool → PlacedUnit
    from_tables b =
        cond b (record { span = span_there; row = Some (row_before 0 (kept phrase stage) (boundary stage unit.last)) })
        (record { span = path_span stage unit; row = None })

    pub placed_by_tables : from_tables (ltb unit.first middle) ≡ place_in phrase stage unit
    unfolding placed_by row_span anchor_span
    placed_by_tables =
        held_either (λ anchors. from_tables (ltb unit.first middle) ≡ place_for phrase stage unit anchors)
        (λ h. ap from_tables (le-ltb unit.first middle h))
        (λ anchor e h. ap from_tables (lt-ltb unit.first middle h) ∙ rw e)

-- the row says whether there is an anchor
pub told_by_row : (phrase : Phrase) (stage : Stage) (unit : Bounds) (anchors : List Anchor)
    → placed (place_for phrase stage unit anchors) ≡ placed_by phrase stage unit anchors
unfolding placed_by
told_by_row phrase stage unit [] = refl
told_by_row phrase stage unit (anchor ∷ more) = refl
