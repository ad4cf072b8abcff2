-- The way back through the marks, unit by unit. Assumes nothing.
use mathlib.Core.List.{List, [], ◌∷◌, ◌++◌, map, append_assoc}
use mathlib.Core.Path.{◌≡◌, refl, sym, ap, ap₂, subst, ◌∙◌}
use Prim.Native.Nat.{ℕ, zero, suc, ◌+◌, ◌-◌, ◌≤◌, ◌<◌}
use native.Mathlib.Omega.{arith}
use lib.ListN.{set, replicate, replicate-append-replicate}
use Rattle.paths.specs.Inner.Marks.{Traces}
use Rattle.paths.specs.Path.{Bounds}
use Rattle.paths.proofs.Marks.{UnitBefore, traces_same, trace_start, trace_gap, trace_unit, trace_count}
use Rattle.limits.specs.Capacity.{most_units}
use Rattle.rows.specs.declared.trace.Bounds.{Bounds as HeldBounds}
use Rattle.rows.specs.Traced.{mark_in, held_bounds, no_bounds, UnitsAre}

-- a store in front of what is stored already
store : {A : Type 0} (s : ℕ) (none x : A) (l : List A) → set (replicate (suc s) none ++ l) s x ≡ replicate s none ++ (x ∷ l)
store zero none x l = refl
store {A} (suc s) none x l = ap (λ (t : List A). none ∷ t) (store s none x l)

pub none-stored : (k : ℕ) → k ≤ most_units → replicate most_units no_bounds ≡ replicate k no_bounds ++ replicate (most_units - k) no_bounds
none-stored k h =
    let is : most_units ≡ k + (most_units - k) = omega arith in
    ap (λ (n : ℕ). replicate n no_bounds) is ∙ sym (replicate-append-replicate k (most_units - k) no_bounds)

-- The units of the whole trace are those of what is left of it, and then those that are stored.
pub record Tracing (back : List ℕ) (n k boundary : ℕ) (held : List HeldBounds) (s j : ℕ) : Type 0 where
  pub units : List Bounds
  pub whole : Traces (mark_in back n) k boundary units
  pub rest : List Bounds
  pub stored : List Bounds
  pub traced : Traces (mark_in back n) s j rest
  pub split : units ≡ rest ++ stored
  pub filled : held ≡ replicate s no_bounds ++ (map held_bounds stored ++ replicate (most_units - k) no_bounds)
  pub row : s ≤ k
  pub place : j < n

module _ {back : List ℕ} {n k boundary : ℕ} {held : List HeldBounds} {s j : ℕ} (was : Tracing back n k boundary held s j) where
  pub gap_back : mark_in back n s j ≡ 2 → (i : ℕ) × (j ≡ suc i) × Traces (mark_in back n) s i was.rest
  gap_back e = trace_gap was.traced e

  pub crossed-back : mark_in back n s j ≡ 2 → Tracing back n k boundary held s (j - 1)
  crossed-back e =
      let before = gap_back e in
      let is : before.0 ≡ j - 1 = omega (arith, before.1) in
      record {
        units = was.units;
        whole = was.whole;
        rest = was.rest;
        stored = was.stored;
        traced = subst (λ (i : ℕ). Traces (mark_in back n) s i was.rest) is before.2;
        split = was.split;
        filled = was.filled;
        row = was.row;
        place = omega (arith, was.place);
      }

  module _ {i : ℕ} (e : mark_in back n s j ≡ 3 + i) where
    pub unit-back : UnitBefore (mark_in back n) s i j was.rest
    unit-back = trace_unit i was.traced e

    -- what is stored as the unit's first boundary is the one that the mark names
    pub united-back :
        (reported : ℕ) → reported ≡ i → Tracing back n k boundary (set held (s - 1) (record { first = reported; last = j })) (s - 1) i
    united-back reported is = record {
      units = was.units;
      whole = was.whole;
      rest = unit-back.before;
      stored = record { first = i; last = j } ∷ was.stored;
      traced = subst (λ (r : ℕ). Traces (mark_in back n) r i unit-back.before) row_is unit-back.traced;
      split =
          was.split ∙ ap (λ (l : List Bounds). l ++ was.stored) unit-back.all
          ∙ append_assoc unit-back.before (record { first = i; last = j } ∷ []) was.stored;
      filled =
          ap₂ (λ (r : ℕ) (l : List HeldBounds). set l (s - 1) (record { first = r; last = j })) is (was.filled ∙ again)
          ∙ store (s - 1) no_bounds here (map held_bounds was.stored ++ replicate (most_units - k) no_bounds);
      row = omega (arith, was.row);
      place = omega (arith, was.place, unit-back.lower);
    }
      where
        row_is : unit-back.row ≡ s - 1
        row_is = omega (arith, unit-back.is_row)

        here : HeldBounds
        here = record { first = i; last = j }

        again :
            replicate s no_bounds ++ (map held_bounds was.stored ++ replicate (most_units - k) no_bounds)
            ≡ replicate (suc (s - 1)) no_bounds ++ (map held_bounds was.stored ++ replicate (most_units - k) no_bounds)
        again =
            let is : s ≡ suc (s - 1) = omega (arith, unit-back.is_row) in
            ap (λ (r : ℕ). replicate r no_bounds ++ (map held_bounds was.stored ++ replicate (most_units - k) no_bounds)) is

  -- at the start nothing is left
  whole-stored : mark_in back n s j ≡ 1 → (s ≡ 0) × (was.units ≡ was.stored)
  whole-stored e =
      let done = trace_start was.traced e in
      (done.0, was.split ∙ ap (λ (l : List Bounds). l ++ was.stored) done.1)

  pub units_there : mark_in back n s j ≡ 1 → (units : List Bounds) → Traces (mark_in back n) k boundary units → UnitsAre held units
  units_there e units traces =
      was.filled ∙ ap₂ (λ (z : ℕ) (us : List Bounds). replicate z no_bounds ++ (map held_bounds us ++ replicate (most_units - k) no_bounds))
      (whole-stored e).0 same
      ∙ ap (λ (m : ℕ). map held_bounds units ++ replicate (most_units - m) no_bounds) (sym (trace_count traces))
    where
      same : was.stored ≡ units
      same = sym (whole-stored e).1 ∙ traces_same was.whole traces
