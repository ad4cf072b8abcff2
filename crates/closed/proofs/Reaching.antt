-- What each count reaches first, from the tables of a stage. Assumes nothing.
use mathlib.Core.Bool.{Bool, true}
use mathlib.Core.Path.{◌≡◌, sym, ap, subst, ◌∙◌}
use Prim.Native.Nat.{ℕ, ◌+◌, ◌≤◌, ◌<◌}
use native.Mathlib.Omega.{arith}
use native.Mathlib.Numerals.{add-one}
use lib.Dec.{leb}
use lib.Ieee.{Float}
use lib.ListN.{get_or}
use Rattle.laws.specs.Inner.Range.{first_from}
use Rattle.phrase.specs.declared.costs.Costs.{Costs}
use Rattle.laws.proofs.Convex.{first_within, first_before, first_found}
use Rattle.paths.specs.Problem.{Problem}
use Rattle.paths.specs.Cell.{empty}
use Rattle.paths.specs.CellRule.{rows, chosen_path}
use Rattle.paths.specs.Inner.Marks.{marks}
use Rattle.paths.specs.Inner.Ranges.{Origins, arrives_from, first_reached}
use Rattle.paths.proofs.Reached.{rows_reach, none_chosen}
use Rattle.limits.specs.Capacity.{unit_counts}
use Rattle.stages.specs.Tables.{StageTables, since_in}
use Rattle.rows.specs.Units.{ReachedFrom, Begins}
use Rattle.closed.specs.Searched.{row_with, low_in, end_in, ReadableTables}
use Rattle.closed.specs.Asked.{Asked, Agrees}

module _ (asked : Asked) {score_rows : ℕ} (readable : ReadableTables asked.tables asked.strictness score_rows) where
  abbrev t : StageTables
  t = asked.tables

  abbrev low : ℕ → ℕ
  low = low_in t

  abbrev end : ℕ → ℕ
  end = end_in t asked.strictness

  -- the origins of a problem that the tables are those of
  origins : (q : Problem) → Agrees asked q → Origins q.unit_ok q.size low end
  origins q agrees = subst (λ (n : ℕ). Origins q.unit_ok n low end) (sym agrees.stops.sized) agrees.origins

  -- the row of s units reaches its boundaries from where the table says
  pub reaches :
      (q : Problem) → Agrees asked q → (s : ℕ) → s < unit_counts → (since : ℕ) → since ≡ get_or (since_in t asked.strictness) s 0 →
      ReachedFrom (rows q (marks q) s) t.size since
  reaches q agrees s h since e j within =
      let sized = agrees.stops.sized in
      rows_reach q (origins q agrees) (marks q) s j (omega arith)
      ∙ ap (λ (m : ℕ). leb m j) (ap (λ (n : ℕ). first_reached low end n s) sized ∙ sym (readable.reached s h) ∙ sym e)

  pub none_there :
      (q : Problem) → Agrees asked q → (k : ℕ) → k < unit_counts → t.size ≤ get_or (since_in t asked.strictness) k 0
      → chosen_path q k ≡ empty
  none_there q agrees k h all =
      let sized = agrees.stops.sized in
      none_chosen q (origins q agrees) k
      (omega (arith, sized, readable.reached k h, ap (λ (n : ℕ). first_reached low end n k) sized))

  -- the first boundary of the row after that of s units
  pub begins :
      (scores : ℕ → Float) (costs : Costs) (s : ℕ) → s + 1 < unit_counts → (before since : ℕ) →
      before ≡ get_or (since_in t asked.strictness) s 0 →
      since ≡ get_or (since_in t asked.strictness) (s + 1) 0 → Begins (row_with t scores costs asked.strictness) t.size before since
  unfolding first_reached
  begins scores costs s h before since e f = record {
    bounded = subst (λ (x : ℕ). x ≤ t.size) (sym is) (first_within test t.size 0 t.size (omega arith));
    none = λ j within below. first_before test t.size 0 t.size j (omega arith) (omega arith) (omega (arith, is));
    some = λ within. subst (λ (x : ℕ). test x ≡ true) (sym is) (first_found test t.size 0 t.size (omega (arith, is)));
  }
    where
      test : ℕ → Bool
      test = arrives_from low end before

      is : since ≡ first_from t.size test 0 t.size
      is =
          f ∙ readable.reached (s + 1) h ∙ ap (first_reached low end t.size) (add-one s)
          ∙ ap (λ (m : ℕ). first_from t.size (arrives_from low end m) 0 t.size) (sym (readable.reached s (omega arith)) ∙ sym e)
