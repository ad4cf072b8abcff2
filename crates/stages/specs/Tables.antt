-- What the tables of a stage hold: for each boundary the figures of the stage's problem, the
-- origins of the units that end there; and for each count of units the first boundary reached.
use Rattle.std.specs.Prelude.{ℕ, suc, ◌-◌, ◌≤◌, ◌<◌, List, ◌≡◌, length, get_or, Float}
use Rattle.std.specs.Float.{nan}
use Rattle.std.specs.Float.Ieee.{neg}
use Rattle.phrase.specs.Phrase.{Phrase, Stage}
use Rattle.paths.specs.Anchors.{kept}
use Rattle.limits.specs.Common.{shortest_unit, longest_unit}
use Rattle.paths.specs.declared.passes.Strictness.{Strictness}
use Rattle.paths.specs.declared.passes.Strictness.TheVariants.{Strict, Relaxed}
use Rattle.paths.specs.Inner.Ranges.{low_origin, origins_end, first_reached, row_before}
use Rattle.paths.specs.StageProblem.{cost, boundary}
use Rattle.limits.specs.Capacity.{unit_counts}
use Rattle.stages.specs.declared.by_strictness.ByStrictness.{ByStrictness}
use Rattle.stages.specs.declared.stage_tables.StageWords.{StageWords}
use Rattle.stages.specs.declared.stage_tables.StageFigures.{StageFigures}

-- For each boundary its frame; the filler costs of the start (negated), of the gap to the next boundary and of the end; of the units that
-- end there the lowest origin, and one past the highest of those that hold an anchor and of all; and the score row of the last kept anchor
-- before it. Entries from `size` on mean nothing. For each count of units, and each strictness, the first boundary reached. Durations go by
-- a unit's length, from the shortest on.
pub record StageTables : Type 0 where
  pub size : ℕ
  pub bounds : List ℕ
  pub start : List Float
  pub gap : List Float
  pub stop : List Float
  pub low : List ℕ
  pub middle : List ℕ
  pub high : List ℕ
  pub row : List ℕ
  pub since_strict : List ℕ
  pub since_relaxed : List ℕ
  pub duration : List Float

-- of the two tables that go by strictness, that of one
abbrev pub ends_in : StageTables → Strictness → List ℕ
ends_in t Strict = t.middle
ends_in t Relaxed = t.high

abbrev pub since_in : StageTables → Strictness → List ℕ
since_in t Strict = t.since_strict
since_in t Relaxed = t.since_relaxed

-- the first boundary that a path of s units reaches in a stage
abbrev pub reached_in : Phrase → Stage → Strictness → ℕ → ℕ
reached_in phrase stage strictness s =
    first_reached
    (low_origin (kept phrase stage) stage.boundaries) (origins_end strictness (kept phrase stage) stage.boundaries)
    (length stage.boundaries) s

pub record Tabled (phrase : Phrase) (stage : Stage) (t : StageTables) : Type 0 where
  pub sized : t.size ≡ length stage.boundaries
  pub bounded : (i : ℕ) → i < t.size → get_or t.bounds i 0 ≡ boundary stage i
  pub started : (i : ℕ) → i < t.size → get_or t.start i nan ≡ neg (cost phrase 0 (boundary stage i))
  pub gapped : (i : ℕ) → suc i < t.size → get_or t.gap i nan ≡ cost phrase (boundary stage i) (boundary stage (suc i))
  pub stopped : (i : ℕ) → i < t.size → get_or t.stop i nan ≡ cost phrase (boundary stage i) (length phrase.mask)
  pub lows : (j : ℕ) → j < t.size → get_or t.low j 0 ≡ low_origin (kept phrase stage) stage.boundaries j
  pub ends :
      (strictness : Strictness) (j : ℕ) → j < t.size →
      get_or (ends_in t strictness) j 0 ≡ origins_end strictness (kept phrase stage) stage.boundaries j
  pub rows : (j : ℕ) → j < t.size → get_or t.row j 0 ≡ row_before 0 (kept phrase stage) (boundary stage j)
  pub sinces : (strictness : Strictness) (s : ℕ) → s < unit_counts → get_or (since_in t strictness) s 0 ≡ reached_in phrase stage strictness s
  pub durations : (d : ℕ) → shortest_unit ≤ d → d ≤ longest_unit → get_or t.duration (d - shortest_unit) nan ≡ stage.duration d

-- an entry of a table that goes by strictness
abbrev pub entry_by : {N : ℕ} → ByStrictness N → Strictness → ℕ → ℕ
entry_by t Strict i = get_or t.strict i 0
entry_by t Relaxed i = get_or t.relaxed i 0

-- the tables as the code's structs hold them
abbrev pub tables_in : ℕ → StageWords → StageFigures → StageTables
tables_in size words figures = record {
  size = size;
  bounds = words.bounds;
  start = figures.filler.start;
  gap = figures.filler.gap;
  stop = figures.filler.stop;
  low = words.origins.low;
  middle = words.origins.ends.strict;
  high = words.origins.ends.relaxed;
  row = words.rows;
  since_strict = words.since.strict;
  since_relaxed = words.since.relaxed;
  duration = figures.durations;
}
