-- What the marks say: reading what a way left gives the way's step. Assumes nothing.
use mathlib.Core.Path.{◌≡◌, refl, ap}
use native.Mathlib.Omega.{arith}
use Rattle.rows.specs.declared.way.Way.{Way}
use Rattle.rows.specs.declared.way.Way.TheVariants.{Start, Gap, Unit}
use Rattle.rows.specs.declared.way.Step.{Step}
use Rattle.rows.specs.declared.way.Step.TheVariants.{Start as StartStep, Gap as GapStep, Unit as UnitStep}
use Rattle.rows.specs.Ways.{way_mark, way_step, step_mark}

pub step_read : (way : Way) (step : Step) → way_mark way ≡ step_mark step → step ≡ way_step way
step_read (Start value) StartStep e = refl
step_read (Start value) GapStep e = absurd (omega (arith, e))
step_read (Start value) (UnitStep i) e = absurd (omega (arith, e))
step_read (Gap value) StartStep e = absurd (omega (arith, e))
step_read (Gap value) GapStep e = refl
step_read (Gap value) (UnitStep i) e = absurd (omega (arith, e))
step_read (Unit value origin) StartStep e = absurd (omega (arith, e))
step_read (Unit value origin) GapStep e = absurd (omega (arith, e))
step_read (Unit value origin) (UnitStep i) e = ap UnitStep (omega (arith, e))
