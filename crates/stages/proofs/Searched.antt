-- What is laid by the places of the boundaries is what the definitions say of the kept anchors.
use Prim.Native.Nat.{ℕ, ◌+◌, ◌-◌, ◌≤◌, ◌<◌}
use mathlib.Core.Bool.{Bool, ◌&&◌, and_assoc}
use mathlib.Core.List.{List, tail}
use mathlib.Core.Path.{◌≡◌, refl, sym, ap, ◌∙◌}
use native.Mathlib.Omega.{arith}
use borrow.Author.Tests.{le-leb, lt-leb, le-ltb, lt-ltb, ne_eqb}
use lib.Dec.{eqb, leb, ltb}
use lib.ListN.{length, get_or, take, drop, length-map}
use Rattle.laws.proofs.Numbers.{by_order}
use Rattle.laws.proofs.Listed.{length_padded, listed_same, table_at_law, table_same}
use Rattle.laws.specs.Listed.{listed}
use Rattle.laws.specs.Inner.Tables.{padded, table_of}
use Rattle.paths.specs.declared.passes.Strictness.TheVariants.{Strict, Relaxed}
use Rattle.paths.specs.Anchors.{Anchor, held_in, row_or}
use Rattle.paths.specs.Units.{fits_unit, admits_unit}
use Rattle.paths.specs.Theory.LookAhead.{ahead, frame_or, first_ahead, second_ahead}
use Rattle.paths.specs.Inner.Ranges.{goes_to, low_origin, origins_end, first_reached, before, last_of, row_before}
use Rattle.paths.proofs.LookAhead.{holds_none, holds_one, holds_more}
use Rattle.paths.proofs.Reached.{reached_same}
use Rattle.paths.proofs.Rising.{Rising}
use Rattle.limits.specs.Capacity.{most_boundaries, anchor_room, unit_counts}
use Rattle.limits.specs.Common.{absent}
use Rattle.stages.specs.declared.by_strictness.ByStrictness.{ByStrictness}
use Rattle.stages.specs.declared.stage_tables.StageWords.{StageWords}
use Rattle.stages.specs.Kept.{rows_of}
use Rattle.stages.specs.Parts.{Searched}
use Rattle.stages.specs.Ranges.{entry_of, unit_to, anchored_to, Ranged}
use Rattle.stages.specs.Search.{Reaches, Within, entry_before, Lays}
use Rattle.stages.proofs.Held.{ahead_drop, figure_from, tail_drop}
use Rattle.stages.proofs.Last.{before_take, figure_before_law}
use Rattle.stages.proofs.Stage.{Placing, array_long, place_at, places_long, place_few}
use Rattle.stages.proofs.Origins.{lows_same, ends_same, ranged_by}

-- ---- the units there are, by the first two kept anchors ahead

module _ {anchors : List Anchor} (rising : Rising 0 anchors) (from to : ℕ) (within : to ≤ absent) where
  -- a unit takes in no second anchor exactly where it holds one or none,
  holds_few : leb to (second_ahead absent anchors from) ≡ leb (length (held_in anchors from to)) 1
  holds_few =
      let first = first_ahead absent anchors from in
      let second = second_ahead absent anchors from in
      by_order second to
      (λ crowded.
      lt-leb to second crowded ∙ sym (lt-leb (length (held_in anchors from to)) 1 (holds_more rising absent from to within crowded)))
      (λ fits. le-leb to second fits ∙ by_order first to
      (λ past. sym (ap (λ (l : List Anchor). leb (length l) 1) (holds_one rising absent from to within 0 past fits)))
      (λ short. sym (ap (λ (l : List Anchor). leb (length l) 1) (holds_none rising absent from to within short))))

  -- and of those it holds one where it goes past the first
  holds_single : leb to (second_ahead absent anchors from) && ltb (first_ahead absent anchors from) to
      ≡ eqb (length (held_in anchors from to)) 1
  holds_single =
      let first = first_ahead absent anchors from in
      let second = second_ahead absent anchors from in
      by_order second to
      (λ crowded.
      ap (λ (few : Bool). few && ltb first to) (lt-leb to second crowded)
      ∙ sym (ne_eqb (length (held_in anchors from to)) 1 (λ e. omega (arith, holds_more rising absent from to within crowded))))
      (λ fits. ap (λ (few : Bool). few && ltb first to) (le-leb to second fits) ∙ by_order first to
      (λ past. lt-ltb first to past ∙ sym (ap (λ (l : List Anchor). eqb (length l) 1) (holds_one rising absent from to within 0 past fits)))
      (λ short. le-ltb first to short ∙ sym (ap (λ (l : List Anchor). eqb (length l) 1) (holds_none rising absent from to within short))))

module _ {anchors : List Anchor} (rising : Rising 0 anchors) (bounds : List ℕ) (i j : ℕ) (within : get_or bounds j 0 ≤ absent) where
  unit_goes : unit_to bounds (λ k. second_ahead absent anchors (get_or bounds k 0)) j i ≡ goes_to Relaxed anchors bounds j i
  unfolding admits_unit
  unit_goes =
      ap (λ (few : Bool). fits_unit (get_or bounds j 0 - get_or bounds i 0) && few) (holds_few rising (get_or bounds i 0) (get_or bounds j 0) within)

  anchored_goes : anchored_to bounds (λ k. first_ahead absent anchors (get_or bounds k 0))
      (λ k. second_ahead absent anchors (get_or bounds k 0)) j i ≡ goes_to Strict anchors bounds j i
  unfolding admits_unit
  anchored_goes =
      let from = get_or bounds i 0 in
      let to = get_or bounds j 0 in
      and_assoc (fits_unit (to - from)) (leb to (second_ahead absent anchors from)) (ltb (first_ahead absent anchors from) to)
      ∙ ap (λ (one : Bool). fits_unit (to - from) && one) (holds_single rising from to within)

-- ---- what each count reaches, by the tables that hold the ranges

counts_by : (f g : ℕ → ℕ) (n : ℕ) {low ends : List ℕ} → low ≡ table_of f n most_boundaries 0 → ends ≡ table_of g n most_boundaries 0
    → listed (first_reached (entry_of low) (entry_of ends) n) unit_counts ≡ listed (first_reached f g n) unit_counts
counts_by f g n {low} {ends} lows tops =
    listed_same (first_reached (entry_of low) (entry_of ends) n) (first_reached f g n) unit_counts
    (λ s _. reached_same (entry_of low) (entry_of ends) f g n (entry f lows) (entry g tops) s)
  where
    entry : (h : ℕ → ℕ) {table : List ℕ} → table ≡ table_of h n most_boundaries 0 → (j : ℕ) → j < n → entry_of table j ≡ h j
    entry h e j inside = ap (λ (l : List ℕ). entry_of l j) e ∙ table_at_law h n most_boundaries 0 0 j inside

-- ---- what stands at the place of a boundary

module _ {mask : List ℕ} {anchors : List Anchor} {frames bounds places : List ℕ} (p : Placing mask anchors frames bounds places) where
  pub reads_within : Within frames places (length bounds)
  reads_within = record {
    some = omega (arith, array_long p.orderly p.framed);
    here = record { placed = omega (arith, places_long p, p.fit.listed.short); inside = λ j h. omega (arith, two j h) };
    next = two;
  }
    where
      two : (j : ℕ) → j < length bounds → entry_of places j + 1 < length frames
      two j h = omega (arith, place_few p j h, p.orderly.few, array_long p.orderly p.framed)

  from_place : (j : ℕ) → j < length bounds → drop (entry_of places j) anchors ≡ ahead anchors (get_or bounds j 0)
  from_place j h =
      ap (λ (n : ℕ). drop n anchors) (place_at p j h) ∙ sym (ahead_drop anchors 0 absent (get_or bounds j 0) p.orderly.climbs)

  frame_from : (place : ℕ) → place < anchor_room → entry_of frames place ≡ frame_or absent (drop place anchors)
  frame_from place h =
      ap (λ (l : List ℕ). get_or l place 0) p.framed
      ∙ figure_from (λ a. a.frame) (frame_or absent) (λ _ _. refl) anchors anchor_room place h

  first_at_law : (j : ℕ) → j < length bounds → entry_of frames (entry_of places j) ≡ first_ahead absent anchors (get_or bounds j 0)
  unfolding first_ahead
  first_at_law j h = frame_from (entry_of places j) (omega (arith, place_few p j h, p.orderly.few)) ∙ ap (frame_or absent) (from_place j h)

  second_at : (j : ℕ) → j < length bounds → entry_of frames (entry_of places j + 1) ≡ second_ahead absent anchors (get_or bounds j 0)
  unfolding second_ahead
  second_at j h =
      frame_from (entry_of places j + 1) (omega (arith, place_few p j h, p.orderly.few))
      ∙ ap (frame_or absent) (sym (tail_drop anchors (entry_of places j)) ∙ ap tail (from_place j h))

  -- the last anchor before a boundary is that before its place
  pub last_at : (j : ℕ) → j < length bounds → last_of (before anchors (get_or bounds j 0)) ≡ last_of (take (entry_of places j) anchors)
  last_at j h =
      ap last_of
      (before_take anchors 0 absent (get_or bounds j 0) p.orderly.climbs ∙ ap (λ (n : ℕ). take n anchors) (sym (place_at p j h)))

  module _ {rows : List ℕ} (rowed : rows ≡ padded (rows_of anchors) anchor_room 0) where
    pub rows_long : length rows ≡ anchor_room
    rows_long =
        ap length rowed
        ∙ length_padded (rows_of anchors) anchor_room 0 (omega (arith, length-map anchors (λ (a : Anchor). a.row), p.orderly.few))

    pub reads_rows : Reaches places (length bounds) (length rows + 1)
    reads_rows = record { placed = reads_within.here.placed; inside = λ j h. omega (arith, place_few p j h, p.orderly.few, rows_long) }

    row_at : (j : ℕ) → j < length bounds → entry_before rows (entry_of places j) ≡ row_before 0 anchors (get_or bounds j 0)
    row_at j h =
        ap (λ (l : List ℕ). entry_before l (entry_of places j)) rowed
        ∙ figure_before_law (λ a. a.row) (row_or 0) (λ _ _. refl) refl anchors anchor_room (entry_of places j) (omega (arith, p.orderly.few))
        (place_few p j h)
        ∙ ap (row_or 0) (sym (last_at j h))

    pub searched : {words : StageWords} → Lays frames rows places bounds words → Searched anchors bounds words
    unfolding low_origin origins_end
    searched {words} lays = record {
      bounded = lays.bounded;
      lows = lows;
      middles = middles;
      highs = highs;
      ranks = lays.ranks
          ∙ table_same (λ j. entry_before rows (entry_of places j)) (λ j. row_before 0 anchors (get_or bounds j 0))
          (length bounds) most_boundaries 0 row_at;
      strict = ap (λ (t : ByStrictness unit_counts). t.strict) lays.since ∙ counts_by (low_origin anchors bounds) (origins_end Strict anchors bounds) (length bounds) lows middles;
      relaxed = ap (λ (t : ByStrictness unit_counts). t.relaxed) lays.since ∙ counts_by (low_origin anchors bounds) (origins_end Relaxed anchors bounds) (length bounds) lows highs;
    }
      where
        ranged : Ranged bounds (λ k. first_ahead absent anchors (get_or bounds k 0)) (λ k. second_ahead absent anchors (get_or bounds k 0))
            words.origins
        ranged = ranged_by first_at_law second_at lays.ranged

        lows : words.origins.low ≡ table_of (low_origin anchors bounds) (length bounds) most_boundaries 0
        lows =
            ranged.lows
            ∙ lows_same (unit_to bounds (λ k. second_ahead absent anchors (get_or bounds k 0))) (goes_to Relaxed anchors bounds) (length bounds)
            (λ i j _ h. unit_goes p.orderly.rising bounds i j (p.small j h))

        middles : words.origins.ends.strict ≡ table_of (origins_end Strict anchors bounds) (length bounds) most_boundaries 0
        middles =
            ranged.middles
            ∙ ends_same
            (anchored_to bounds (λ k. first_ahead absent anchors (get_or bounds k 0)) (λ k. second_ahead absent anchors (get_or bounds k 0)))
            (goes_to Strict anchors bounds) (length bounds) (λ i j _ h. anchored_goes p.orderly.rising bounds i j (p.small j h))

        highs : words.origins.ends.relaxed ≡ table_of (origins_end Relaxed anchors bounds) (length bounds) most_boundaries 0
        highs =
            ranged.highs
            ∙ ends_same (unit_to bounds (λ k. second_ahead absent anchors (get_or bounds k 0))) (goes_to Relaxed anchors bounds) (length bounds)
            (λ i j _ h. unit_goes p.orderly.rising bounds i j (p.small j h))
