-- A kept anchor's row leads to its place among the listed ones, and so to its span.
use Prim.Native.Nat.{ℕ, zero, suc, ◌-◌, ◌≤◌, ◌<◌}
use mathlib.Core.List.{List}
use mathlib.Core.Path.{◌≡◌, refl, sym, ap, ◌∙◌}
use native.Mathlib.Omega.{arith}
use lib.ListN.{length, get_or, take}
use lib.Seq.{drop-cons}
use Rattle.laws.specs.Inner.Tables.{padded}
use Rattle.frames.specs.declared.span.Span.{Span}
use Rattle.paths.specs.Anchors.{Anchor, row_or}
use Rattle.paths.specs.Inner.Ranges.{before, last_of}
use Rattle.spans.specs.Spans.{span_of}
use Rattle.limits.specs.Capacity.{anchor_room}
use Rattle.stages.specs.Kept.{rows_of}
use Rattle.stages.specs.Ranges.{entry_of}
use Rattle.stages.proofs.Held.{IsListed, AllListed, listed_at, figure_from}
use Rattle.stages.proofs.Last.{last_take}
use Rattle.stages.proofs.Stage.{Placing, place_few}
use Rattle.stages.proofs.Searched.{reads_rows, last_at}
use Rattle.prepare.specs.Sides.{listed_span, listed_before, RowsWithin}

-- ---- a span of listed anchors, by the rows before places

module _ (span : ℕ → Span) (rows : List ℕ) (first : ℕ) where
  before_other : (place : ℕ) → (place ≡ 0 → ⊥) → span (entry_of rows (place - 1) - first) ≡ listed_before span rows first place
  before_other zero ne = absurd (ne refl)
  before_other (suc place) ne = let e : suc place - 1 ≡ place = omega arith in ap (λ (at : ℕ). span (entry_of rows at - first)) e

-- a span of the rows that occur
pub before_same : (f g : ℕ → Span) (rows : List ℕ) (first place : ℕ)
    → (0 < place → f (entry_of rows (place - 1) - first) ≡ g (entry_of rows (place - 1) - first))
    → listed_before f rows first place ≡ listed_before g rows first place
before_same f g rows first zero same = refl
before_same f g rows first (suc place) same =
    sym (before_other f rows first (suc place) (λ e. omega arith)) ∙ same (omega arith)
    ∙ before_other g rows first (suc place) (λ e. omega arith)

-- ---- kept anchors of a list, where they and their rows stand in arrays

module _ (listed : List ℕ) (first : ℕ) {mask : List ℕ} {anchors : List Anchor} {frames bounds places rows : List ℕ}
    (p : Placing mask anchors frames bounds places)
    (rowed : rows ≡ padded (rows_of anchors) anchor_room 0) (all : AllListed first listed anchors) where
  abbrev at_place_law : ℕ → Anchor
  at_place_law place = get_or anchors place (record { frame = 0; row = 0 })

  row_is : (place : ℕ) → place < length anchors → entry_of rows place ≡ (at_place_law place).row
  row_is place h =
      ap (λ (l : List ℕ). entry_of l place) rowed
      ∙ figure_from (λ a. a.row) (row_or 0) (λ _ _. refl) anchors anchor_room place (omega (arith, p.orderly.few))
      ∙ ap (row_or 0) (drop-cons anchors place (record { frame = 0; row = 0 }) h)

  is_listed : (place : ℕ) → place < length anchors → IsListed first listed (at_place_law place)
  is_listed place h = listed_at first listed anchors all place (record { frame = 0; row = 0 }) h

  pub rows_within : RowsWithin rows first places (length bounds) (length listed)
  rows_within = record {
    placed = reads_rows p rowed;
    from = λ j h some. let place = entry_of places j - 1 in
        let inside : place < length anchors = omega (arith, place_few p j h) in
        omega (arith, row_is place inside, (is_listed place inside).from);
    within = λ j h some. let place = entry_of places j - 1 in
        let inside : place < length anchors = omega (arith, place_few p j h) in
        omega (arith, row_is place inside, (is_listed place inside).within);
  }

  -- the span of the last anchor up to a place
  module _ (lo hi : ℕ) where
    span_up_to : (place : ℕ) → place ≤ length anchors
        → listed_before (λ i. span_of listed bounds lo hi (entry_of listed i)) rows first place
        ≡ listed_span listed bounds lo hi (last_of (take place anchors))
    unfolding last_of
    span_up_to zero h = refl
    span_up_to (suc place) h =
        ap (λ (row : ℕ). span_of listed bounds lo hi (entry_of listed (row - first))) (row_is place h)
        ∙ ap (span_of listed bounds lo hi) (is_listed place h).there
        ∙ sym (ap (listed_span listed bounds lo hi) (last_take anchors place (record { frame = 0; row = 0 }) h))

    pub span_at : (j : ℕ) → j < length bounds
        → listed_before (λ i. span_of listed bounds lo hi (entry_of listed i)) rows first (entry_of places j)
        ≡ listed_span listed bounds lo hi (last_of (before anchors (get_or bounds j 0)))
    span_at j h =
        span_up_to (entry_of places j) (place_few p j h) ∙ ap (listed_span listed bounds lo hi) (sym (last_at p j h))
