-- The rows of values and marks are those of the paths that the cell rule keeps, and the marks lead back to exactly those paths' units.
use Prim.Native.Nat.{ℕ, zero, suc, ◌+◌, ◌≤◌, ◌<◌}
use native.Mathlib.Omega.{arith}
use mathlib.Core.Path.{◌≡◌, refl, sym, ap, ap₂, fun_ext, subst, ◌∙◌}
use mathlib.Core.List.{List, [], ◌∷◌, ◌++◌}
use lib.Dec.{T}
use lib.ListN.{length, length-append}
use lib.Ieee.{binary64, add, sub, lt}
use Rattle.paths.specs.Problem.{Problem}
use Rattle.paths.specs.Path.{Path, begin, gap, unit, end, count, value, sum, Bounds, units_of}
use Rattle.paths.specs.Cell.{held, best, carry}
use Rattle.paths.specs.CellRule.{rows, paths, chosen_path}
use Rattle.paths.specs.Inner.Marks.{Marked, marks, mark_of, marked, mark_at, End, ended, chosen_end, Traces, started, crossed, united}
use Rattle.paths.proofs.Cells.{Every, every_at, carry_carry, carry_same, carry_best}
use Rattle.paths.proofs.Keeping.{Carried, rows_every, Same, rows_same}

-- Where a path that the rows hold comes from: its last step is taken from what the rows hold before it.
pub data Kept (q : Problem) : ℕ → ℕ → Path → Type 0 where
  kept_begin : {j : ℕ} → Kept q zero j (begin j)
  kept_gap : {s j : ℕ} {p : Path} → rows q (paths q) s j ≡ held p → Kept q s (suc j) (gap p)
  kept_unit : {s i j : ℕ} {p : Path} → i < j → T (q.unit_ok i j) → rows q (paths q) s i ≡ held p → Kept q (suc s) j (unit p j)

-- a path of s units that stands at boundary j
pub record Stands (s j : ℕ) (p : Path) : Type 0 where
  pub counts : count p ≡ s
  pub ends : end p ≡ j

module _ (q : Problem) where
  pub rows_kept : (s j : ℕ) (p : Path) → rows q (paths q) s j ≡ held p → Kept q s j p
  unfolding paths
  rows_kept s j p e = every_at (rows_every q (paths q) (Kept q) along s j) e
    where
      along : Carried q (paths q) (Kept q)
      along = record { starts = λ j. kept_begin; gaps = λ s j p e k. kept_gap e; units = λ s i j p l ok e k. kept_unit l ok e }

  rows_stand : (s j : ℕ) → Every (Stands s j) (rows q (paths q) s j)
  unfolding paths count end
  rows_stand = rows_every q (paths q) Stands
      record {
        starts = λ j. record { counts = refl; ends = refl };
        gaps = λ s j p e at. record { counts = at.counts; ends = ap suc at.ends };
        units = λ s i j p l ok e at. record { counts = ap suc at.counts; ends = refl };
      }

  -- the values and marks that code keeps are those of the paths that the rule keeps
  pub rows_marked : (s j : ℕ) → rows q (marks q) s j ≡ carry (marked q) (rows q (paths q) s j)
  unfolding paths marks value mark_of
  rows_marked s j = sym (rows_same q (paths q) (marks q) Stands (marked q) rows_stand same s j)
    where
      same : Same q (paths q) (marks q) Stands (marked q)
      same = record {
        less = λ p r. refl;
        starts = λ j. refl;
        gaps = λ s j p at. ap (λ i. record { value = sub binary64 (value q p) (q.gap_cost i); mark = 2 }) at.ends;
        units = λ s i j p at.
            ap₂ (λ n b. record { value = add binary64 (value q p) (q.unit_value n b j); mark = 3 + b }) at.counts at.ends;
      }

  -- the end that code chooses is that of the path chosen
  pub end_chosen : (k : ℕ) → chosen_end q (rows q (marks q) k) ≡ carry (ended q) (chosen_path q k)
  unfolding chosen_end chosen_path sum
  end_chosen k =
      ap (best (λ a b. lt a.sum b.sum) q.size) (fun_ext at) ∙
      sym (carry_best (λ p r. lt (sum q p) (sum q r)) (λ a b. lt a.sum b.sum) (ended q) (λ p r. refl) q.size (rows q (paths q) k))
    where
      stopped : ℕ → Marked → End
      stopped j a = record { sum = sub binary64 a.value (q.stop_cost j); at = j }

      at : (j : ℕ) → carry (stopped j) (rows q (marks q) k j) ≡ carry (ended q) (rows q (paths q) k j)
      at j =
          ap (carry (stopped j)) (rows_marked k j) ∙ carry_carry (stopped j) (marked q) (rows q (paths q) k j) ∙
          carry_same (λ p. stopped j (marked q p)) (ended q) (rows q (paths q) k j)
          (λ p at. ap (λ i. record { sum = sub binary64 (value q p) (q.stop_cost i); at = i }) (sym at.ends)) (rows_stand k j)

  -- the mark of a cell that holds a path
  mark_of_law : (s j : ℕ) (p : Path) → rows q (paths q) s j ≡ held p → mark_at (rows q (marks q) s j) ≡ mark_of p
  unfolding mark_at carry
  mark_of_law s j p e = ap mark_at (rows_marked s j ∙ ap (carry (marked q)) e)

  -- Marks that agree with the rows lead back to the units of the path that the rule keeps.
  module _ (k : ℕ) (mark : ℕ → ℕ → ℕ) (agree : (s j : ℕ) → s ≤ k → j < q.size → mark s j ≡ mark_at (rows q (marks q) s j)) where
    pub marks_trace :
        (s j : ℕ) (p : Path) → s ≤ k → j < q.size → rows q (paths q) s j ≡ held p → Traces mark s j (units_of p)
    unfolding mark_of units_of
    marks_trace s j p a b e = go p (rows_kept s j p e) a b (agree s j a b ∙ mark_of_law s j p e)
      where
        go : {s j : ℕ} (p : Path) → Kept q s j p → s ≤ k → j < q.size → mark s j ≡ mark_of p → Traces mark s j (units_of p)
        go (begin j) kept_begin a b m = started m
        go (gap p) (kept_gap {s = s} {j = j} e) a b m =
            crossed m (go p (rows_kept s j p e) a (omega arith) (agree s j a (omega arith) ∙ mark_of_law s j p e))
        go (unit p j) (kept_unit {s = s} {i = i} l ok e) a b m =
            let at : end p ≡ i = (every_at (rows_stand s i) e).ends in
            subst (λ z. Traces mark (suc s) j (units_of p ++ (record { first = z; last = j } ∷ []))) (sym at)
            (united l (m ∙ ap (λ z. 3 + z) at)
            (go p (rows_kept s i p e) (omega arith) (omega arith) (agree s i (omega arith) (omega arith) ∙ mark_of_law s i p e)))

-- A unit from boundary i ends a trace: the units before it, and the row that they are traced in.
pub record UnitBefore (mark : ℕ → ℕ → ℕ) (s i j : ℕ) (us : List Bounds) : Type 0 where
  pub before : List Bounds
  pub row : ℕ
  pub is_row : s ≡ suc row
  pub lower : i < j
  pub traced : Traces mark row i before
  pub all : us ≡ before ++ (record { first = i; last = j } ∷ [])

-- What marks lead back to is determined, so code that follows them finds nothing else.
module _ {mark : ℕ → ℕ → ℕ} where
  pub traces_same : {s j : ℕ} {us vs : List Bounds} → Traces mark s j us → Traces mark s j vs → us ≡ vs
  traces_same (started m) (started n) = refl
  traces_same (started m) (crossed n t) = absurd (omega arith)
  traces_same (crossed m t) (started n) = absurd (omega arith)
  traces_same (crossed m t) (crossed n u) = traces_same t u
  traces_same (crossed m t) (united l n u) = absurd (omega arith)
  traces_same (united l m t) (crossed n u) = absurd (omega arith)
  traces_same (united {s = s} {i = i} {j = j} {units = us} l m t) (united {i = i'} {units = vs} h n u) =
      let e : i ≡ i' = omega arith in
      ap₂ (λ ws z. ws ++ (record { first = z; last = j } ∷ [])) (traces_same t (subst (λ z. Traces mark s z vs) (sym e) u)) e

  -- The last step of a trace, by the mark that is read.
  pub trace_start : {s j : ℕ} {us : List Bounds} → Traces mark s j us → mark s j ≡ 1 → (s ≡ 0) × (us ≡ [])
  trace_start (started m) e = (refl, refl)
  trace_start (crossed m t) e = absurd (omega arith)
  trace_start (united l m t) e = absurd (omega arith)

  pub trace_gap : {s j : ℕ} {us : List Bounds} → Traces mark s j us → mark s j ≡ 2 → (i : ℕ) × (j ≡ suc i) × Traces mark s i us
  trace_gap (started m) e = absurd (omega arith)
  trace_gap (crossed {j = j} m t) e = (j, refl, t)
  trace_gap (united l m t) e = absurd (omega arith)

  pub trace_unit : {s j : ℕ} {us : List Bounds} (i : ℕ) → Traces mark s j us → mark s j ≡ 3 + i → UnitBefore mark s i j us
  trace_unit i (started m) e = absurd (omega arith)
  trace_unit i (crossed m t) e = absurd (omega arith)
  trace_unit i (united {s = s} {i = i'} {j = j} {units = us} l m t) e =
      let same : i' ≡ i = omega arith in
      record {
        before = us;
        row = s;
        is_row = refl;
        lower = omega arith;
        traced = subst (λ z. Traces mark s z us) same t;
        all = ap (λ z. us ++ (record { first = z; last = j } ∷ [])) same;
      }

  -- no other mark occurs on a trace
  pub trace_marked : {s j : ℕ} {us : List Bounds} → Traces mark s j us → 0 < mark s j
  trace_marked (started m) = omega arith
  trace_marked (crossed m t) = omega arith
  trace_marked (united l m t) = omega arith

  -- the row is the number of units
  pub trace_count : {s j : ℕ} {us : List Bounds} → Traces mark s j us → length us ≡ s
  trace_count (started m) = refl
  trace_count (crossed m t) = trace_count t
  trace_count (united l m t) = simp length-append (omega (arith, trace_count t))
