-- The words and the figures of a stage are what is prepared of it.
use Prim.Native.Nat.{ℕ, ◌+◌, ◌-◌, ◌≤◌}
use mathlib.Core.Path.{◌≡◌, sym, ap, subst, ◌∙◌}
use native.Mathlib.Omega.{arith}
use lib.ListN.{length, get_or}
use lib.Ieee.{nan}
use Rattle.laws.proofs.Listed.{table_at_law}
use Rattle.phrase.specs.Phrase.{Phrase, Stage}
use Rattle.limits.specs.Common.{shortest_unit, longest_unit, durations}
use Rattle.stages.specs.Filler.{no_cost}
use Rattle.stages.specs.Tables.{Tabled, tables_in}
use Rattle.stages.specs.Made.{tables_of}
use Rattle.stages.specs.declared.stage_tables.StageTables.{StageTables}
use Rattle.stages.proofs.OwnTables.{own_tables, laid}
use Rattle.prepare.specs.Sides.{durations_of, anchor_span, WordsOf, Figured, Prepared}

duration_at_law : (stage : Stage) (d : ℕ) → shortest_unit ≤ d → d ≤ longest_unit
    → get_or (durations_of stage) (d - shortest_unit) nan ≡ stage.duration d
duration_at_law stage d least most =
    let e : d - shortest_unit + shortest_unit ≡ d = omega arith in
    table_at_law (λ i. stage.duration (i + shortest_unit)) durations durations no_cost nan (d - shortest_unit) (omega arith)
    ∙ ap stage.duration e

module _ (phrase : Phrase) (stage : Stage) (numbered : phrase.nuclei.first_row ≡ 0) {lo hi : ℕ} {held : StageTables}
    (worded : WordsOf phrase stage lo hi held.words) (figured : Figured phrase stage held.figures) where
  exact : tables_in (length stage.boundaries) held.words held.figures
      ≡ tables_of phrase.mask phrase.nuclei.anchors stage.anchors stage.first_row stage.boundaries (durations_of stage)
      phrase.costs
  exact =
      laid phrase.mask phrase.nuclei.anchors stage.anchors stage.first_row stage.boundaries (durations_of stage)
      phrase.costs held.words held.figures
      worded.searched figured.fills figured.timed

  pub prepared : Prepared phrase stage lo hi held
  unfolding anchor_span
  prepared = record {
    tables = record {
      exact = exact;
      tabled = subst (Tabled phrase stage) (sym exact) (own_tables phrase stage (durations_of stage) numbered (duration_at_law stage));
    };
    spans = worded.spans;
  }
