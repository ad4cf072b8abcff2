-- Filled rows hold the path chosen: the end over the last row is its end, and the marks lead back to its units. Assumes nothing.
use mathlib.Core.Bool.{Bool, true, false, cond}
use mathlib.Core.List.{List}
use Rattle.std.specs.Prelude.{Some, None}
use mathlib.Core.Path.{◌≡◌, refl, sym, ap, subst, ◌∙◌}
use Prim.Native.Nat.{ℕ, zero, suc, ◌*◌, ◌<◌}
use native.Mathlib.Nat.{le_refl}
use native.Mathlib.Omega.{arith}
use lib.Ieee.{Float, lt}
use Rattle.paths.specs.Problem.{Problem}
use Rattle.paths.specs.Path.{Path as Route, begin, gap, unit, end as end_of, sum, Bounds, units_of}
use Rattle.paths.specs.Cell.{Cell, empty, held, keep, best as best_of, carry}
use Rattle.paths.specs.CellRule.{rows, paths, chosen_path}
use Rattle.paths.specs.Inner.Marks.{Marked, marks, mark_at, End as Ended, ended, Traces}
use Rattle.paths.proofs.Cells.{held_same}
use Rattle.paths.proofs.Marks.{Kept, kept_begin, kept_gap, kept_unit, rows_kept, end_chosen, marks_trace}
use Rattle.rows.specs.declared.end.End.{End}
use Rattle.rows.specs.declared.trace.Bounds.{Bounds as HeldBounds}
use Rattle.rows.specs.Rows.{Holds, unreached, reached}
use Rattle.rows.specs.Ends.{ended_by, StopsOf, EndOf}
use Rattle.rows.specs.Traced.{mark_in, Traceable, UnitsAre}
use Rattle.closed.specs.Reported.{Reports, AllRows, LastReached}
use Rattle.closed.proofs.Parts.{part, part_holds}

-- ---- where the path chosen stands in the last row

record Source {A : Type 0} (m : ℕ) (ways : ℕ → Cell A) (a : A) : Type 0 where
  place : ℕ
  below : place < m
  here : ways place ≡ held a

-- what the rule keeps of some ways is one of them
source : {A : Type 0} (less : A → A → Bool) (m : ℕ) (ways : ℕ → Cell A) (a : A) → best_of less m ways ≡ held a → Source m ways a
unfolding best_of keep
source less zero ways a e = absurd (let z : ◌≡◌ {A = ℕ} 0 1 = cc in omega arith)
source {A} less (suc m) ways a e = go (λ was. source less m ways a was) (best_of less m ways) refl (ways m) refl e
  where
    earlier : Source m ways a → Source (suc m) ways a
    earlier at = record { place = at.place; below = omega (arith, at.below); here = at.here }

    last : ways m ≡ held a → Source (suc m) ways a
    last is = record { place = m; below = omega arith; here = is }

    pick :
        (best_of less m ways ≡ held a → Source m ways a) →
        (b : Bool) (x y : A) → best_of less m ways ≡ held x → ways m ≡ held y → cond b (held y) (held x) ≡ held a → Source (suc m) ways a
    pick before true x y was is e = last (is ∙ e)
    pick before false x y was is e = earlier (before (was ∙ e))

    go :
        (best_of less m ways ≡ held a → Source m ways a) →
        (c : Cell A) → best_of less m ways ≡ c → (d : Cell A) → ways m ≡ d → keep less c d ≡ held a → Source (suc m) ways a
    go before empty was d is e = last (is ∙ e)
    go before (held x) was empty is e = earlier (before (was ∙ e))
    go before (held x) was (held y) is e = pick before (less x y) x y was is e

-- a path that the rows hold ends at its boundary
kept_ends : {q : Problem} (p : Route) {s j : ℕ} → Kept q s j p → end_of p ≡ j
unfolding end_of
kept_ends (begin j) kept_begin = refl
kept_ends {q} (gap p) (kept_gap {s = s} {j = j} e) = ap suc (kept_ends p (rows_kept q s j p e))
kept_ends (unit p j) (kept_unit l ok e) = refl

holds_mark : {value : Float} {mark : ℕ} {cell : Cell Marked} → Holds value mark cell → mark ≡ mark_at cell
unfolding mark_at
holds_mark unreached = refl
holds_mark (reached h) = refl

module _ (q : Problem) (k n : ℕ) (stop : List Float) (best : List Float) (back : List ℕ) (stops : StopsOf q stop n)
    (all : AllRows q best back n k) where
  -- the marks lead back to the units of the path chosen
  trace_chosen : (p : Route) → chosen_path q k ≡ held p → (end_of p < n) × Traces (mark_in back n) k (end_of p) (units_of p)
  unfolding chosen_path
  trace_chosen p e =
      let at = source (λ p r. lt (sum q p) (sum q r)) q.size (rows q (paths q) k) p e in
      let is : at.place ≡ end_of p = sym (kept_ends p (rows_kept q k at.place p at.here)) in (
        omega (arith, at.below, stops.sized, is),
        subst (λ (j : ℕ). Traces (mark_in back n) k j (units_of p)) is
            (marks_trace q k (mark_in back n) (λ s j h l. holds_mark (all s h j (omega (arith, stops.sized)))) k at.place p (le_refl k)
            at.below at.here),
      )

  -- the end over the last row, which reaches some boundary, is that of the path chosen
  module _ (since : ℕ) (reach : LastReached q n k since) (end : End) (of : EndOf q (part (k * n) best) n since end) where
    end_is : held (ended_by end) ≡ carry (ended q) (chosen_path q k)
    end_is =
        of (part (k * n) back) (rows q (marks q) k) (λ j h. part_holds best back (k * n) j (all k (le_refl k) j h)) reach ∙ end_chosen q k

    -- the path that it is the end of
    chosen_there : (p : Route) × (chosen_path q k ≡ held p) × (ended q p ≡ ended_by end)
    unfolding carry
    chosen_there = go (chosen_path q k) refl end_is
      where
        go : (c : Cell Route) → chosen_path q k ≡ c → held (ended_by end) ≡ carry (ended q) c → (p : Route) × (chosen_path q k ≡ held p)
            × (ended q p ≡ ended_by end)
        go empty chosen e = absurd (let z : ◌≡◌ {A = ℕ} 0 1 = cc in omega arith)
        go (held p) chosen e = (p, chosen, sym (held_same e))

    -- its marks lead back to its units
    pub traced : (end.boundary < n) × Traceable back n k end.boundary
    traced =
        let there = chosen_there in
        let trace = trace_chosen there.0 there.1 in
        let is : end_of there.0 ≡ end.boundary = ap (λ (x : Ended). x.at) there.2 in (
          subst (λ (j : ℕ). j < n) is trace.0,
          (units_of there.0, subst (λ (j : ℕ). Traces (mark_in back n) k j (units_of there.0)) is trace.1),
        )

    -- what is reported as its units is what the trace gives
    pub reports_chosen :
        (units : List HeldBounds) → ((found : List Bounds) → Traces (mark_in back n) k end.boundary found → UnitsAre units found) →
        (reported : List HeldBounds) → reported ≡ units → Reports q k (Some (record { sum = end.sum; units = reported }))
    unfolding carry
    reports_chosen units led reported is_traced =
        let there = chosen_there in
        let is : end_of there.0 ≡ end.boundary = ap (λ (x : Ended). x.at) there.2 in
        let summed : end.sum ≡ sum q there.0 = sym (ap (λ (x : Ended). x.sum) there.2) in
        record {
          found = rw there.1 (ap held summed);
          units = rw there.1
              (is_traced
              ∙ led (units_of there.0)
              (subst (λ (j : ℕ). Traces (mark_in back n) k j (units_of there.0)) is (trace_chosen there.0 there.1).1));
        }

-- where the last row reaches no boundary there is no path
pub reports_none : {q : Problem} {k : ℕ} → chosen_path q k ≡ empty → Reports q k None
unfolding carry
reports_none none = record { found = rw none; units = tt }
