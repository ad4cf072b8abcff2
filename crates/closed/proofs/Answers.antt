-- From one pass to the answer of the search through them. Assumes nothing.
use Rattle.std.specs.Prelude.{Option, Some, None, Ok, Err, IfSome}
use mathlib.Core.Path.{◌≡◌, refl}
use Prim.Native.Nat.{ℕ}
use Rattle.paths.specs.declared.passes.Pass.{Pass}
use Rattle.paths.specs.Problem.{Problem}
use Rattle.paths.specs.Path.{Path as Route, sum}
use Rattle.paths.specs.Cell.{Cell, empty, held, carry}
use Rattle.paths.specs.CellRule.{chosen_path}
use Rattle.paths.proofs.Cells.{held_same}
use Rattle.paths.specs.Demand.{none, Answer as Demanded}
use Rattle.paths.specs.Search.{or_else}
use Rattle.rows.specs.Traced.{UnitsAre}
use Rattle.closed.specs.declared.path.Path.{Path}
use Rattle.closed.specs.declared.search.Found.{Found}
use Rattle.closed.specs.declared.search.Missed.{Missed}
use Rattle.closed.specs.Reported.{sum_found, units_in, Reports}
use Rattle.closed.specs.Answered.{Says, answer_in}

-- a path reported is that of the pass, and "no path" is said where there is none
module _ (pass : Pass) (q : Problem) (k : ℕ) (path : Option Path) (reports : Reports q k path) where
  pub says_path : Says (or_else pass q (chosen_path q k) none) (answer_in pass path)
  unfolding carry
  says_path = go path (chosen_path q k) reports.found reports.units
    where
      go :
          (f : Option Path) (c : Cell Route) → sum_found f ≡ carry (sum q) c →
          IfSome f (λ (here : Path). UnitsAre here.units (units_in c)) →
          Says (or_else pass q c none) (answer_in pass f)
      go (Some here) (held route) is units = (refl, held_same is, units)
      go None empty is units = refl
      go (Some here) empty is units = cc
      go None (held route) is units = cc

-- a pass that finds a path is the answer, whatever the later passes would give; one that finds none leaves it to them
pub says_first :
    (pass : Pass) (q : Problem) (c : Cell Route) (later : Demanded) (here : Found) → Says (or_else pass q c none) (Ok here) →
    Says (or_else pass q c later) (Ok here)
says_first pass q empty later here says = absurd (cc says)
says_first pass q (held route) later here says = says

pub leaves_later :
    (pass : Pass) (q : Problem) (c : Cell Route) (later : Demanded) (missed : Missed) → Says (or_else pass q c none) (Err missed) →
    or_else pass q c later ≡ later
leaves_later pass q empty later missed says = refl
leaves_later pass q (held route) later missed says = absurd says
