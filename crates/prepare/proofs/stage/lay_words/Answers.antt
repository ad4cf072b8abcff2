-- The words of the search are laid, and in their midst those of the spans.
use Rattle.std.proofs.Common.{ℕ, length, get_or, ◌∙◌}
use Rattle.laws.proofs.Listed.{table_same}
use Rattle.frames.specs.declared.span.Span.{Span}
use Rattle.paths.specs.Inner.Ranges.{before, last_of}
use Rattle.spans.specs.Spans.{span_of}
use Rattle.limits.specs.Capacity.{most_boundaries}
use Rattle.stages.specs.Kept.{kept_of}
use Rattle.stages.specs.Ranges.{entry_of}
use Rattle.stages.specs.Search.{no_span}
use Rattle.stages.proofs.Held.{kept_listed}
use Rattle.stages.proofs.Stage.{kept_placing}
use Rattle.prepare.specs.Sides.{listed_span, listed_before}
use Rattle.prepare.proofs.Rows.{rows_within, span_at}
use Rattle.prepare.proofs.stage.lay_words.Goals as goal

pub lay_spans-requires-clause-rows_within :
    goal.lay_spans-requires-clause-rows_within
lay_spans-requires-clause-rows_within c =
    let s = c.args.stage.now in
    let placed = c.place_anchors-placed.ensures in
    let p = kept_placing s.mask.now s.first_row s.anchors.now s.fit s.listed s.bounded placed in
    rows_within s.anchors.now s.first_row p placed.rowed (kept_listed s.mask.now s.first_row s.anchors.now)

pub returns : goal.returns
returns c =
    let s = c.args.stage.now in
    let anchors = s.anchors.now in
    let bounds = s.bounds.now in
    let first = s.first_row in
    let lo = c.args.edges.start in
    let hi = c.args.edges.end in
    let placed = c.place_anchors-placed in
    let rowed = placed.ensures.rowed in
    let p = kept_placing s.mask.now first anchors s.fit s.listed s.bounded placed.ensures in
    let rows = placed.result.rows in
    let place = entry_of placed.result.places in
    let all = kept_listed s.mask.now first anchors in
    let last : ℕ → Span = λ j. listed_span anchors bounds lo hi (last_of (before (kept_of s) (get_or bounds j 0))) in
    let span : ℕ → Span = λ i. span_of anchors bounds lo hi (entry_of anchors i) in
    let searched = c.lay_parts.ensures.searched in record {
      searched = record {
        bounded = searched.bounded;
        lows = searched.lows;
        middles = searched.middles;
        highs = searched.highs;
        ranks = searched.ranks;
        strict = searched.strict;
        relaxed = searched.relaxed;
      };
      spans = c.lay_spans.ensures
          ∙ table_same (λ j. listed_before span rows first (place j)) last (length bounds) most_boundaries no_span
          (span_at anchors first p rowed all lo hi);
    }
