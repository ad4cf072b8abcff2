-- The span of each listed anchor is found, and each boundary picks that of the last kept one before it.
use Rattle.std.proofs.Common.{◌≡◌, ℕ, ◌-◌, ◌≤◌, List, ◌++◌, length, get_or, take, drop, replicate, rules, ap, ◌∙◌}
use Rattle.laws.proofs.Listed.{table_same, written_at}
use Rattle.laws.specs.Listed.{listed}
use Rattle.stages.proofs.Written.{front_table}
use Rattle.laws.specs.Inner.Tables.{table_of, written}
use Rattle.spans.specs.Spans.{span_of}
use Rattle.limits.specs.Capacity.{most_anchors, most_boundaries}
use Rattle.stages.specs.Ranges.{entry_of}
use Rattle.stages.specs.Search.{no_span, no_spans}
use Rattle.frames.specs.declared.span.Span.{Span}
use Rattle.prepare.specs.Sides.{listed_before, RowsWithin}
use Rattle.prepare.proofs.Rows.{before_same}
use Rattle.prepare.proofs.stage.lay_spans.Goals as goal

-- a span of each listed anchor, in a list, of the last kept one before each boundary
module _ (span : ℕ → Span) (size : ℕ) {rows : List ℕ} {first : ℕ} {places : List ℕ} {n : ℕ} (within : RowsWithin rows first places n size)
    {list : List Span} (filled : list ≡ written span size (replicate most_anchors no_span)) where
  abbrev picks : ℕ → Span
  picks j = listed_before (λ i. get_or list i no_span) rows first (entry_of places j)

  picked : {old front : List Span} → old ≡ no_spans → n ≤ most_boundaries → front ≡ listed picks (length (take n old))
      → front ++ drop n old ≡ table_of (λ j. listed_before span rows first (entry_of places j)) n most_boundaries no_span
  picked {old} {front} spare few e =
      ap (λ (l : List Span). front ++ drop n l) spare
      ∙ front_table picks n most_boundaries no_span few (e ∙ ap (λ (l : List Span). listed picks (length (take n l))) spare)
      ∙ table_same picks (λ j. listed_before span rows first (entry_of places j)) n most_boundaries no_span
      (λ j h.
      let row = entry_of rows (entry_of places j - 1) in
      before_same (λ i. get_or list i no_span) span rows first (entry_of places j)
      (λ some. ap (λ (l : List Span). get_or l (row - first) no_span) filled
      ∙ written_at span size (replicate most_anchors no_span) no_span (row - first) (within.within j h some)))

pub returns : goal.returns
returns c =
    let s = c.args.stage.now in
    let placed = c.args.placed.now in
    let anchors = s.anchors.now in
    let span = λ (i : ℕ). span_of anchors s.bounds.now c.args.edges.start c.args.edges.end (entry_of anchors i) in
    let before = λ (j : ℕ).
    listed_before (λ i. get_or c.spans_ascending.new.spans i no_span) placed.rows s.first_row (entry_of placed.places j) in
    picked span (length anchors) c.requires.rows_within c.spans_ascending.ensures c.requires.spare s.fit.listed.short
    (c.write_each.ensures before (λ j x below made. search rules))
