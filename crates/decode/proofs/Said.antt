-- What the code's answer says of the answer.
use Prim.Native.Nat.{ℕ}
use mathlib.Core.Path.{◌≡◌, sym, subst}
use Rattle.std.specs.Prelude.{Ok, Err}
use Rattle.paths.specs.Path.{Path, units_of}
use Rattle.paths.specs.Demand as D
use Rattle.paths.specs.Demand.{Answer, answer_number}
use Rattle.rows.specs.Traced.{UnitsAre}
use Rattle.closed.specs.declared.search.Found.{Found}
use Rattle.closed.specs.declared.search.Missed.{Missed}
use Rattle.closed.specs.declared.search.Missed.TheVariants.{NoPath, Unvoiced}
use Rattle.closed.specs.Answered.{Says, missed_word}

pub record FoundPath (a : Answer) (found : Found) : Type 0 where
  pub path : Path
  pub is : a ≡ D.found found.pass path found.path.sum
  pub units : UnitsAre found.path.units (units_of path)

pub says_found : (a : Answer) (found : Found) → Says a (Ok found) → FoundPath a found
says_found (D.found pass path total) found says =
    record { path = path; is = λ i. D.found (sym says.0 i) path (sym says.1 i); units = says.2 }
says_found D.none found says = cc
says_found D.unvoiced found says = cc

-- what holds of both answers without a path, by the number of each
pub says_missed : (P : Answer → ℕ → Type 0) → P D.none (answer_number D.none) → P D.unvoiced (answer_number D.unvoiced)
    → (a : Answer) (missed : Missed) → Says a (Err missed) → P a (missed_word missed)
says_missed P none unvoiced (D.found pass path total) missed says = absurd says
says_missed P none unvoiced D.none missed says = let e : NoPath ≡ missed = cc in subst (λ (m : Missed). P D.none (missed_word m)) e none
says_missed P none unvoiced D.unvoiced missed says = let e : Unvoiced ≡ missed = cc in subst (λ (m : Missed). P D.unvoiced (missed_word m)) e unvoiced
