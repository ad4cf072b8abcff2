-- The ways into a cell (document 01, "How a path is scored"), as the two work areas keep them.
use Rattle.std.specs.Prelude.{ℕ, zero, suc, ◌+◌, ◌<◌, ◌^◌, cond, Float}
use Rattle.std.specs.Float.Ieee.{lt}
use Rattle.paths.specs.Inner.Marks.{Marked}
use Rattle.rows.specs.declared.way.Way.{Way}
use Rattle.rows.specs.declared.way.Way.TheVariants.{Start, Gap, Unit}
use Rattle.rows.specs.declared.way.Step.{Step}
use Rattle.rows.specs.declared.way.Step.TheVariants.{Start as StartStep, Gap as GapStep, Unit as UnitStep}

abbrev pub way_value : Way → Float
way_value (Start value) = value
way_value (Gap value) = value
way_value (Unit value origin) = value

-- 1 a start, 2 a gap, 3 + i a unit from boundary i
abbrev pub way_mark : Way → ℕ
way_mark (Start value) = 1
way_mark (Gap value) = 2
way_mark (Unit value origin) = 3 + origin

-- what its mark says of a way
abbrev pub way_step : Way → Step
way_step (Start value) = StartStep
way_step (Gap value) = GapStep
way_step (Unit value origin) = UnitStep origin

-- the mark that says so
abbrev pub step_mark : Step → ℕ
step_mark StartStep = 1
step_mark GapStep = 2
step_mark (UnitStep origin) = 3 + origin

-- the mark of the way fits a cell
abbrev pub Markable : Way → Type 0
Markable way = way_mark way < 2 ^ 32

-- what is kept of a way
abbrev pub marked_by : Way → Marked
marked_by way = record { value = way_value way; mark = way_mark way }

-- "A later way replaces only when strictly greater."
unfoldable pub or_later : Way → Way → Way
or_later way later = cond (lt (way_value way) (way_value later)) later way

-- the ways of n origins from one on, "from the lowest origin up", after what is kept so far
unfoldable pub or_each : (ℕ → Way) → Way → ℕ → ℕ → Way
unfolding or_later
or_each way kept from zero = kept
or_each way kept from (suc n) = or_each way (or_later kept (way from)) (suc from) n
