-- The two tables that go by strictness, as the code's struct holds them. Assumes nothing.
use mathlib.Core.Path.{◌≡◌, refl}
use Prim.Native.Nat.{ℕ}
use lib.ListN.{get_or}
use Rattle.paths.specs.declared.passes.Strictness.{Strictness}
use Rattle.paths.specs.declared.passes.Strictness.TheVariants.{Strict, Relaxed}
use Rattle.stages.specs.declared.stage_tables.StageWords.{StageWords}
use Rattle.stages.specs.declared.stage_tables.StageFigures.{StageFigures}
use Rattle.stages.specs.Tables.{entry_by, ends_in, since_in, tables_in}
use Rattle.rows.specs.Reads.{reached_by}

module _ (n : ℕ) (words : StageWords) (figures : StageFigures) where
  pub end_at_law : (strictness : Strictness) (j : ℕ) → get_or (ends_in (tables_in n words figures) strictness) j 0 ≡ entry_by words.origins.ends strictness j
  end_at_law Strict j = refl
  end_at_law Relaxed j = refl

  pub reached_at :
      (strictness : Strictness) (units : ℕ) → get_or (since_in (tables_in n words figures) strictness) units 0 ≡ reached_by words strictness units
  reached_at Strict units = refl
  reached_at Relaxed units = refl
