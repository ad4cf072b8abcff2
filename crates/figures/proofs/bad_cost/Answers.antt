-- The second table counts only where there are anchors.
use Rattle.std.proofs.Common.{ℕ, ◌+◌, ◌*◌, ◌<◌, Bool, true, false, ◌&&◌, ◌||◌, List, ltb, ◌≡◌, sym, ap, ap₂, ◌∙◌, arith}
use borrow.Author.Tests.{lt-ltb}
use Rattle.laws.proofs.Choices.{or_found, or_rest}
use Rattle.record.specs.Conditions.{bad_scores, bad_figures, bad_table, bad_cost, first_table, second_table}
use Rattle.record.specs.declared.layout.Layout.{Layout}
use Rattle.figures.proofs.Tables.{scores_walked, table_walked}
use Rattle.figures.proofs.bad_cost.Goals as goal

module _ (bytes : List ℕ) (at : Layout) {s f t : Bool}
    (scores : s ≡ bad_scores bytes at.scores.start ((at.nuclei.count + at.added_anchors.count) * at.scores.count))
    (figures : f ≡ bad_figures bytes at.costs)
    (table : t ≡ bad_table bytes (first_table at.costs)) where
  -- the costs but those of the second table, and what they leave
  abbrev First : Bool
  First =
      bad_scores bytes at.scores.start ((at.nuclei.count + at.added_anchors.count) * at.scores.count)
      || bad_figures bytes at.costs
      || bad_table bytes (first_table at.costs)

  tested : First ≡ (s || f || t)
  tested = sym (ap₂ ◌||◌ (ap₂ ◌||◌ scores figures) table)

  bad_first : (s || f || t) ≡ true → true ≡ bad_cost bytes at
  unfolding bad_cost
  bad_first e = or_found First _ (tested ∙ e)

  no_second : (s || f || t) ≡ false → at.added_anchors.count ≡ 0 → false ≡ bad_cost bytes at
  unfolding bad_cost
  no_second e none = ap (λ (n : ℕ). ltb 0 n && bad_table bytes (second_table at.costs)) (sym none) ∙ or_rest First _ (tested ∙ e)

  second : (s || f || t) ≡ false → 0 < at.added_anchors.count → bad_table bytes (second_table at.costs) ≡ bad_cost bytes at
  unfolding bad_cost
  second e some =
      ap (λ (b : Bool). b && bad_table bytes (second_table at.costs)) (sym (lt-ltb 0 at.added_anchors.count some)) ∙ or_rest First _ (tested ∙ e)

pub returns-then-any_bad-bad_figures : goal.returns-then-any_bad-bad_figures
returns-then-any_bad-bad_figures c =
    bad_first _ _
    (scores_walked _ _ _ c.any_bad.ensures c.numbers_at-scores.ensures.len c.numbers_at-scores.ensures.number)
    c.bad_figures.ensures
    (table_walked _ _ _ c.any_bad-2.ensures c.numbers_at-first.ensures.len c.numbers_at-first.ensures.number)
    c.if-any_bad-bad_figures.true

pub returns-then-at-eq0 : goal.returns-then-at-eq0
returns-then-at-eq0 c =
    no_second _ _
    (scores_walked _ _ _ c.any_bad.ensures c.numbers_at-scores.ensures.len c.numbers_at-scores.ensures.number)
    c.bad_figures.ensures
    (table_walked _ _ _ c.any_bad-2.ensures c.numbers_at-first.ensures.len c.numbers_at-first.ensures.number)
    c.if-any_bad-bad_figures.false c.if-at-eq0.true

pub returns : goal.returns
returns c =
    table_walked _ _ _ c.any_bad-3.ensures c.numbers_at-second.ensures.len c.numbers_at-second.ensures.number
    ∙ second _ _
    (scores_walked _ _ _ c.any_bad.ensures c.numbers_at-scores.ensures.len c.numbers_at-scores.ensures.number)
    c.bad_figures.ensures
    (table_walked _ _ _ c.any_bad-2.ensures c.numbers_at-first.ensures.len c.numbers_at-first.ensures.number)
    c.if-any_bad-bad_figures.false (omega arith)
