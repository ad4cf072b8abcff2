-- What the units into one boundary and the gap from the one before leave in its cell: the cell rule over ranges of origins. Assumes
-- nothing.
use mathlib.Core.Bool.{Bool, true, false, cond, ◌&&◌}
use mathlib.Core.List.{List}
use mathlib.Core.Logic.{inl, inr}
use mathlib.Core.Path.{◌≡◌, refl, sym, ap, subst, ◌∙◌}
use Prim.Native.Nat.{ℕ, zero, suc, ◌+◌, ◌-◌, ◌≤◌, ◌<◌, max}
use native.Mathlib.Numerals.{add-one}
use native.Mathlib.Omega.{arith}
use lib.Dec.{T, leb, ltb, le→leb, lt→ltb}
use lib.Ieee.{Float, binary64, add, sub, nan}
use lib.Ieee.Fits.{and_i}
use lib.ListN.{length, get_or}
use borrow.Author.Tests.{le-leb, lt-leb, lt-ltb, le-ltb}
use Rattle.laws.proofs.Numbers.{by_order}
use Rattle.paths.specs.Problem.{Problem}
use Rattle.paths.specs.Cell.{Cell, empty, held, keep, carry}
use Rattle.paths.specs.CellRule.{sweep}
use Rattle.paths.specs.Inner.Marks.{Marked, marks}
use Rattle.paths.specs.Inner.Ranges.{in_range, arrives_from}
use Rattle.stages.specs.Tables.{entry_by}
use Rattle.stages.specs.declared.stage_tables.StageTables.{StageTables}
use Rattle.rows.specs.declared.inputs.RowInputs.{RowInputs}
use Rattle.rows.specs.declared.way.Way.{Way}
use Rattle.rows.specs.declared.way.Way.TheVariants.{Gap, Unit}
use Rattle.rows.specs.Ways.{Markable, marked_by, or_later, or_each}
use Rattle.rows.specs.Reads.{UnitRead, unit_way, units_kept}
use Rattle.rows.specs.Rows.{Row, GapsOf, first}
use Rattle.rows.specs.Units.{RowTables, frame_at, low_at, middle_at, end_at, score_at, UnitsOf, ReachedFrom, Begins, arrivals, next_cells, CellOf}
use Rattle.rows.specs.Inputs.{tables_by}
use Rattle.rows.proofs.Tables.{end_at_law}
use Rattle.rows.proofs.Cells.{higher, or_keeps, or_markable, row_held, row_empty}
use Rattle.rows.proofs.Arrivals.{brought, Idle, Arrives, brought_none, brought_past, brought_first, brought_each, sweep_first}

-- ---- marks fit

each_markable : (way : ℕ → Way) (n i : ℕ) (kept : Way) → Markable kept → ((k : ℕ) → k < i + n → Markable (way k))
    → Markable (or_each way kept i n)
unfolding or_each
each_markable way zero i kept h each = h
each_markable way (suc n) i kept h each =
    each_markable way n (suc i) (or_later kept (way i)) (or_markable kept (way i) h (each i (omega arith))) (λ k l. each k (omega arith))

-- ---- no unit arrives

-- origins that are below the range or before the first reached one, or past the end, bring nothing
module _ {q : Problem} {s : ℕ} {t : RowTables} {n : ℕ} (before : ℕ) (of : UnitsOf q s t n) (best : List Float)
    (back : List ℕ) {cells : ℕ → Cell Marked}
    (row : Row best back first n cells) (reach : ReachedFrom cells n before) (j : ℕ) (within : j < n) where
  barred : (i : ℕ) → i < j → in_range (low_at t j) (end_at t j) i ≡ false → q.unit_ok i j ≡ false
  barred i h e = of.origins.ranged i j h within ∙ e

  below_idle : (i : ℕ) → i < j → i < max (low_at t j) before → Idle q s cells j i
  below_idle i h k =
      by_order i before (λ l. inl (row_empty best back row reach i (omega arith) l))
      (λ l. let low : i < low_at t j = omega arith in inr (barred i h (rw (lt-leb (low_at t j) i low))))

  past_idle : (i : ℕ) → i < j → end_at t j ≤ i → Idle q s cells j i
  past_idle i h k = inr (barred i h (rw (le-ltb i (end_at t j) k) (and_no (leb (low_at t j) i))))
    where
      and_no : (b : Bool) → (b && false) ≡ false
      and_no true = refl
      and_no false = refl

  arrivals_brought : arrivals q s cells j ≡ brought q s cells j j
  unfolding brought marks
  arrivals_brought = refl

  -- nothing arrives where no range has an origin that was reached
  pub arrivals_none : arrives_from (low_at t) (end_at t) before j ≡ false → arrivals q s cells j ≡ empty
  arrivals_none e = arrivals_brought ∙ brought_none q s cells j j idle
    where
      idle : (i : ℕ) → i < j → Idle q s cells j i
      idle i h =
          by_order i (max (low_at t j) before) (below_idle i h)
          (λ above. by_order i (end_at t j)
          (λ inside. absurd
          (let z : ◌≡◌ {A = Bool} true false =
          sym (rw (lt-ltb before (end_at t j) (omega arith), lt-ltb (low_at t j) (end_at t j) (omega arith))) ∙ e in no z))
          (past_idle i h))
        where
          no : true ≡ false → ⊥
          no z = let y : ◌≡◌ {A = ℕ} 0 1 = cc in omega arith

-- ---- the units of a range

module _ (inputs : RowInputs) (j : ℕ) (within : j < inputs.n) where
  abbrev n : ℕ
  n = inputs.n

  abbrev laid : StageTables
  laid = inputs.tables.now

  abbrev t : RowTables
  t = tables_by inputs

  pub end_is : entry_by laid.words.origins.ends inputs.strictness j ≡ end_at t j
  end_is = sym (end_at_law n laid.words laid.figures inputs.strictness j)

  pub middle_inside : middle_at t j ≤ end_at t j
  middle_inside = inputs.ordered.inside j within

  module _ (best : List Float) (long : n + n ≤ length best) (low end : ℕ) (from : low_at t j ≤ low) (to : end ≡ end_at t j) where
    ranged : (i : ℕ) → low ≤ i → i < end → T (in_range (low_at t j) (end_at t j) i)
    ranged i h k = and_i (leb (low_at t j) i) (ltb i (end_at t j)) (le→leb (low_at t j) i (omega arith)) (lt→ltb i (end_at t j) (omega arith))

    earlier : (i : ℕ) → i < end → i < j
    earlier i h = omega (arith, inputs.ordered.earlier j within)

    -- each unit of the range can be read
    pub unit_read : (i : ℕ) → low ≤ i → i < end → UnitRead best laid (frame_at t j) i
    unit_read i h k =
        let before = earlier i k in
        let fits = inputs.ordered.fits i j within (ranged i h k) in
        record {
          placed = omega arith;
          listed = omega arith;
          shortest = omega (arith, fits.0);
          longest = omega (arith, fits.0, fits.1);
        }

    way_markable : (voice : Float) (i : ℕ) → i < end → Markable (unit_way best laid (frame_at t j) voice i)
    way_markable voice i h = let before = earlier i h in omega arith

    -- the first origin whose unit holds no anchor
    abbrev middle : ℕ
    middle = middle_at t j

    abbrev rest : ℕ
    rest = max (low + 1) middle

    pub units_markable : low < end → (voice : Float) → Markable (units_kept best laid voice inputs.costs j low end)
    unfolding units_kept
    units_markable some voice =
        let bare = inputs.costs.«unvoiced» in
        let inside = middle_inside in
        each_markable (unit_way best laid (frame_at t j) bare) (end - rest) rest _
        (each_markable (unit_way best laid (frame_at t j) (cond (ltb low middle) voice bare)) (middle - (low + 1)) (low + 1) _
        (way_markable (cond (ltb low middle) voice bare) low some) (λ k h. way_markable (cond (ltb low middle) voice bare) k (omega arith)))
        (λ k h. way_markable bare k (omega arith))

    module _ {q : Problem} {s : ℕ} (before : ℕ) (of : UnitsOf q s t n) (back : List ℕ) {cells : ℕ → Cell Marked}
        (row : Row best back first n cells)
        (reach : ReachedFrom cells n before) (lowest : low ≡ max (low_at t j) before) where
      -- each unit of the range, with the score that its place in the range says, arrives
      arrives :
          (i : ℕ) → low ≤ i → i < end → (voice : Float) → voice ≡ score_at t i j →
          Arrives q s cells j i (unit_way best laid (frame_at t j) voice i)
      arrives i h k voice scored =
          let sooner = earlier i k in
          let in_range_law = ranged i h k in
          let fits = inputs.ordered.fits i j within in_range_law in
          let ok : q.unit_ok i j ≡ true =
          of.origins.ranged i j sooner within ∙ rw (le-leb (low_at t j) i (omega arith), lt-ltb i (end_at t j) (omega arith)) in
          record {
            from = record { value = get_or best i nan; mark = get_or back i 0 };
            there = row_held best back row reach i (omega arith) (omega arith);
            ok = ok;
            is = ap (λ (x : Float). Unit (add binary64 (get_or best i nan) x) i)
                (rw scored (sym (of.value i j sooner within (subst T (sym ok) tt))));
          }

      pub arrivals_kept :
          low < end → arrivals q s cells j ≡ held (marked_by (units_kept best laid (t.score j) inputs.costs j low end))
      unfolding units_kept
      arrivals_kept some =
          let inside = middle_inside in
          let far : end_at t j ≤ j = inputs.ordered.earlier j within in
          let to_rest : low + 1 + (middle - (low + 1)) ≡ rest = omega arith in
          let to_end : rest + (end - rest) ≡ end = omega arith in
          let to_last : end + (j - end) ≡ j = omega arith in
          arrivals_brought before of best back row reach j within
          ∙ ap (brought q s cells j) (sym to_last)
          ∙ brought_past q s cells j end (j - end) (λ i h k. past_idle before of best back row reach j within i (omega arith) (omega arith))
          ∙ ap (brought q s cells j) (sym to_end)
          ∙ brought_each q s cells j (unit_way best laid (frame_at t j) inputs.costs.«unvoiced») (end - rest) rest _
          (ap (brought q s cells j) (sym to_rest)
          ∙ brought_each q s cells j (unit_way best laid (frame_at t j) voiced) (middle - (low + 1)) (low + 1) _ first_one
          (λ k h l. arrives k (omega arith) (omega arith) voiced (anchored k (omega arith) (omega arith))))
          (λ k h l. arrives k (omega arith) (omega arith) inputs.costs.«unvoiced» (bare k (omega arith)))
        where
          voiced : Float
          voiced = cond (ltb low middle) (t.score j) inputs.costs.«unvoiced»

          anchored : (i : ℕ) → low < i → i < middle → voiced ≡ score_at t i j
          anchored i h k =
              ap (λ (b : Bool). cond b (t.score j) inputs.costs.«unvoiced»)
              (lt-ltb low middle (omega arith) ∙ sym (lt-ltb i (middle_at t j) (omega arith)))

          bare : (i : ℕ) → middle ≤ i → inputs.costs.«unvoiced» ≡ score_at t i j
          bare i h =
              ap (λ (b : Bool). cond b (t.score j) inputs.costs.«unvoiced») (sym (le-ltb i (middle_at t j) (omega arith)))

          first_one :
              brought q s cells j (low + 1)
              ≡ held (marked_by (unit_way best laid (frame_at t j) (cond (ltb low middle) (t.score j) inputs.costs.«unvoiced») low))
          first_one =
              ap (brought q s cells j) (add-one low)
              ∙ brought_first q s cells j low
              (brought_none q s cells j low
              (λ i h. below_idle before of best back row reach j within i (omega (arith, earlier low some)) (omega arith)))
              (arrives low (omega arith) some _ refl)

-- ---- the cell

-- the gap from the boundary before comes last
next_step :
    (q : Problem) (s : ℕ) (cells : ℕ → Cell Marked) (j : ℕ) → 0 < j →
    next_cells q s cells j ≡ keep higher (arrivals q s cells j) (carry ((marks q).over_gap (j - 1)) (next_cells q s cells (j - 1)))
unfolding sweep marks
next_step q s cells zero h = absurd (omega arith)
next_step q s cells (suc j) h =
    let is : suc j - 1 ≡ j = omega arith in
    rw is

module _ (inputs : RowInputs) (j : ℕ) (within : j < inputs.n) (best : List Float) (long : inputs.n + inputs.n ≤ length best)
    (before since : ℕ) (last : Float) (begun : since ≤ j) (begins : Begins (tables_by inputs) inputs.n before since) where
  abbrev tables : RowTables
  tables = tables_by inputs

  -- the way by the gap whose cost the code reads at `from`
  abbrev gap_way : ℕ → Way
  gap_way from = Gap (sub binary64 last (get_or inputs.tables.now.figures.filler.gap from nan))

  -- the gap carried on from the cell before
  carried :
      (q : Problem) (s : ℕ) (cells : ℕ → Cell Marked) → GapsOf q tables.tables.gap inputs.n → 0 < j → (mark : ℕ) →
      next_cells q s cells (j - 1) ≡ held (record { value = last; mark = mark }) →
      carry ((marks q).over_gap (j - 1)) (next_cells q s cells (j - 1)) ≡ held (marked_by (gap_way (j - 1)))
  unfolding carry marks
  carried q s cells gaps h mark e = rw (e, ← gaps (j - 1) (omega arith))

  -- a row's first boundary is reached by a unit, so a boundary that none reaches is a later one
  pub later_than : arrives_from (low_at tables) (end_at tables) before j ≡ false → since < j
  later_than e =
      by_order since j (λ l. l)
      (λ l. absurd (no (sym (begins.some (omega arith)) ∙ ap (arrives_from (low_at tables) (end_at tables) before) (omega arith) ∙ e)))
    where
      no : true ≡ false → ⊥
      no z = let y : ◌≡◌ {A = ℕ} 0 1 = cc in omega arith

  module _ (low end : ℕ) (lowest : low ≡ max (low_at tables j) before) (to : end ≡ end_at tables j) where
    abbrev unit_ways : Way
    unit_ways = units_kept best inputs.tables.now (tables.score j) inputs.costs j low end

    nothing_arrives : end ≤ low → arrives_from (low_at tables) (end_at tables) before j ≡ false
    nothing_arrives h = by_order before (end_at tables j)
        (λ l. rw (lt-ltb before (end_at tables j) l, le-ltb (low_at tables j) (end_at tables j) (omega arith)))
        (λ l. rw (le-ltb before (end_at tables j) l))

    pub alone_later : end ≤ low → since < j
    alone_later h = later_than (nothing_arrives h)

    -- where no unit arrives there is the gap alone
    pub cell_gap : end ≤ low → (from : ℕ) → from ≡ j - 1 → CellOf tables best inputs.n before since j last (gap_way from)
    unfolding keep
    cell_gap h from is = record {
      markable = omega arith;
      kept = λ q s gaps of back cells row reach mark filled.
          let after = alone_later h in
          next_step q s cells j (omega arith)
          ∙ rw (arrivals_none before of best back row reach j within (nothing_arrives h))
          (rw is (carried q s cells gaps (omega arith) mark (filled after)));
    }

    units_are :
        low < end → {q : Problem} {s : ℕ} → UnitsOf q s tables inputs.n → (back : List ℕ) (cells : ℕ → Cell Marked) → Row best back first inputs.n cells →
        ReachedFrom cells inputs.n before → arrivals q s cells j ≡ held (marked_by unit_ways)
    units_are some of back cells row reach =
        arrivals_kept inputs j within best long low end (omega arith) to before of back row reach lowest some

    kept_markable : low < end → Markable unit_ways
    kept_markable some = units_markable inputs j within best long low end (omega arith) to some (tables.score j)

    -- the first boundary of a row has its units alone
    pub cell_units : low < end → j ≤ since → CellOf tables best inputs.n before since j last unit_ways
    cell_units some h = record {
      markable = kept_markable some;
      kept = λ q s gaps of back cells row reach mark filled.
          sweep_first (marks q) (arrivals q s cells) j
          (λ i l. arrivals_none before of best back row reach i (omega arith) (begins.none i (omega arith) (omega arith)))
          ∙ units_are some of back cells row reach;
    }

    -- a later one has them, then the gap
    pub cell_both :
        low < end → since < j → (from : ℕ) → from ≡ j - 1 →
        CellOf tables best inputs.n before since j last (or_later unit_ways (gap_way from))
    cell_both some after from is = record {
      markable = or_markable unit_ways (gap_way from) (kept_markable some) (omega arith);
      kept = λ q s gaps of back cells row reach mark filled.
          next_step q s cells j (omega arith)
          ∙ rw (units_are some of back cells row reach, carried q s cells gaps (omega arith) mark (filled after), is)
          (sym (or_keeps unit_ways (gap_way (j - 1))));
    }
