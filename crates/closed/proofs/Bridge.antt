-- The tables of a stage are those of its problems. Assumes nothing.
use mathlib.Core.Bool.{Bool, true, false, not, cond}
use mathlib.Core.List.{List, [], ◌∷◌}
use mathlib.Core.Path.{◌≡◌, refl, sym, ap, subst, ◌∙◌}
use Prim.Native.Nat.{ℕ, ◌+◌, ◌-◌, ◌≤◌, ◌<◌}
use native.Mathlib.Omega.{arith}
use lib.Dec.{T, leb, ltb, ltb→lt, nltb→le}
use lib.Ieee.{Float, binary64, add}
use lib.Ieee.Fits.{and_r}
use lib.ListN.{length, get_or}
use borrow.Author.Tests.{lt-ltb, le-ltb}
use Rattle.laws.proofs.Tests.{by_test}
use Rattle.laws.specs.Inner.Each.{Each, each_none, each_more}
use Rattle.phrase.specs.Phrase.{Phrase, Stage}
use Rattle.paths.specs.declared.passes.Strictness.{Strictness}
use Rattle.paths.specs.declared.passes.Strictness.TheVariants.{Strict, Relaxed}
use Rattle.paths.specs.Inner.Order.{Increasing}
use Rattle.paths.specs.Anchors.{Anchor, kept, held_in, row_or}
use Rattle.paths.specs.Inner.Ranges.{goes_to, low_origin, origins_end, in_range, Origins, first_reached, before, last_of, row_before}
use Rattle.paths.specs.StageProblem.{score_of, unit_value_of, boundary, problem_of}
use Rattle.paths.proofs.Anchors.{InRows, each_select, kept_rows}
use Rattle.paths.proofs.Rising.{Rising, kept_rising}
use Rattle.paths.proofs.Ranges.{origins, held_in_range, any_relaxed, one_in_range, strict_inside, fits_in_range}
use Rattle.paths.proofs.Reached.{reached_same}
use Rattle.limits.specs.Capacity.{most_boundaries}
use Rattle.stages.specs.Tables.{StageTables, Tabled}
use Rattle.closed.specs.Searched.{low_in, end_in, ReadableTables}
use Rattle.closed.specs.Asked.{Agrees}

-- ---- the rows of anchors

row_below : {first most : ℕ} {anchors : List Anchor} → 0 < most → Each (InRows first most) anchors → row_or 0 anchors < most
row_below h each_none = h
row_below h (each_more (low, high) rest) = high

each_last : {P : Anchor → Type 0} {anchors : List Anchor} → Each P anchors → Each P (last_of anchors)
unfolding last_of
each_last each_none = each_none
each_last (each_more h each_none) = each_more h each_none
each_last (each_more h (each_more k rest)) = each_last (each_more k rest)

module _ (phrase : Phrase) (stage : Stage) (t : StageTables) (tabled : Tabled phrase stage t) (anchors_up : Increasing stage.anchors)
    (bounds_up : Increasing stage.boundaries) (few : length stage.boundaries ≤ most_boundaries) where
  rising : Rising 0 (kept phrase stage)
  rising = kept_rising phrase.mask stage.first_row stage.anchors anchors_up

  counted : (i : ℕ) → i < t.size → i < length stage.boundaries
  counted i h = omega (arith, tabled.sized)

  -- the origins of a strictness, as the tables have them
  ranges : (strictness : Strictness)
      → Origins (λ i j. goes_to strictness (kept phrase stage) stage.boundaries j i) t.size (low_in t) (end_in t strictness)
  ranges strictness =
      let all = origins (kept phrase stage) stage.boundaries bounds_up strictness in
      record {
        ranged = λ i j h k. all.ranged i j h (counted j k) ∙ rw (tabled.lows j k, tabled.ends strictness j k);
        earlier = λ j h. rw (tabled.ends strictness j h) (all.earlier j (counted j h));
      }

  -- the unit of an origin in the range is admitted
  admitted :
      (strictness : Strictness) (i j : ℕ) → j < t.size → T (in_range (low_in t j) (end_in t strictness j) i) →
      (i < j) × T (goes_to strictness (kept phrase stage) stage.boundaries j i)
  admitted strictness i j h inside =
      let below : i < end_in t strictness j =
      ltb→lt i (end_in t strictness j) (and_r (leb (low_in t j) i) (ltb i (end_in t strictness j)) inside) in
      let before : i < j = omega (arith, (ranges strictness).earlier j h) in
      (before, subst T (sym ((ranges strictness).ranged i j before h)) inside)

  -- the score of an admitted unit, by where its origin stands in the range
  scored :
      (strictness : Strictness) (column i j : ℕ) → i < j → j < t.size → T (goes_to strictness (kept phrase stage) stage.boundaries j i) →
      score_of phrase column (held_in (kept phrase stage) (boundary stage i) (boundary stage j))
      ≡ cond (ltb i (get_or t.middle j 0)) (phrase.score (get_or t.row j 0) column) phrase.costs.«unvoiced»
  unfolding score_of
  scored strictness column i j h k goes = by_test (ltb i (get_or t.middle j 0))
      (λ below. one_score (held_in (kept phrase stage) (boundary stage i) (boundary stage j))
      (one_in_range (kept phrase stage) stage.boundaries rising bounds_up i j h (counted j k) relaxed
      (omega (arith, tabled.ends Strict j k, ltb→lt i (get_or t.middle j 0) below)))
      ∙ ap (λ (row : ℕ). phrase.score row column) (ap (row_or 0) (held_as true (passes below)) ∙ sym (tabled.rows j k))
      ∙ sym (ap choose (passes below)))
      (λ above. ap (score_of phrase column) (held_as false (fails above)) ∙ sym (ap choose (fails above)))
    where
      relaxed : T (goes_to Relaxed (kept phrase stage) stage.boundaries j i)
      relaxed = any_relaxed (kept phrase stage) stage.boundaries i j strictness goes

      choose : Bool → Float
      choose b = cond b (phrase.score (get_or t.row j 0) column) phrase.costs.«unvoiced»

      passes : T (ltb i (get_or t.middle j 0)) → ltb i (get_or t.middle j 0) ≡ true
      passes below = lt-ltb i (get_or t.middle j 0) (ltb→lt i (get_or t.middle j 0) below)

      fails : T (not (ltb i (get_or t.middle j 0))) → ltb i (get_or t.middle j 0) ≡ false
      fails above = le-ltb i (get_or t.middle j 0) (nltb→le i (get_or t.middle j 0) above)

      held_as :
          (b : Bool) → ltb i (get_or t.middle j 0) ≡ b →
          held_in (kept phrase stage) (boundary stage i) (boundary stage j)
          ≡ cond b (last_of (before (kept phrase stage) (boundary stage j))) []
      held_as b e =
          held_in_range (kept phrase stage) stage.boundaries rising bounds_up i j h (counted j k) relaxed
          ∙ ap (λ (c : Bool). cond c (last_of (before (kept phrase stage) (boundary stage j))) [])
          (ap (ltb i) (sym (tabled.ends Strict j k)) ∙ e)

      one_score : (l : List Anchor) → length l ≡ 1 → score_of phrase column l ≡ phrase.score (row_or 0 l) column
      one_score [] e = absurd (omega arith)
      one_score (anchor ∷ l) e = refl

  pub agrees : (strictness : Strictness) (columns : List ℕ) →
      Agrees (record { phrase = phrase; columns = columns; strictness = strictness; tables = t })
      (problem_of phrase stage strictness columns)
  unfolding unit_value_of
  agrees strictness columns = record {
    starts = tabled.started;
    gaps = tabled.gapped;
    stops = record { sized = sym tabled.sized; costs = tabled.stopped };
    origins = ranges strictness;
    units = λ s h. record {
      origins = ranges strictness;
      value = λ i j l k ok.
          let from : get_or t.bounds i 0 ≡ boundary stage i = tabled.bounded i (omega arith) in
          let to : get_or t.bounds j 0 ≡ boundary stage j = tabled.bounded j k in
          let fits = fits_in_range (kept phrase stage) stage.boundaries i j strictness ok in
          rw (from, to, tabled.durations (boundary stage j - boundary stage i) fits.0 fits.1)
          (ap (λ (x : Float). add binary64 x (stage.duration (boundary stage j - boundary stage i)))
          (scored strictness (get_or columns s 0) i j l k ok));
    };
  }

  row_before_law : (score_rows : ℕ) → 0 < score_rows → stage.first_row + length stage.anchors ≤ score_rows → (to : ℕ)
      → row_before 0 (kept phrase stage) to < score_rows
  unfolding before
  row_before_law score_rows some most to =
      row_below some
      (each_last (each_select (λ anchor. ltb anchor.frame to)
      (kept_rows phrase.mask stage.first_row score_rows stage.anchors most)))

  pub readable :
      (strictness : Strictness) (score_rows : ℕ) → 0 < score_rows → stage.first_row + length stage.anchors ≤ score_rows
      → ReadableTables t strictness score_rows
  readable strictness score_rows some most = record {
    few = omega (arith, tabled.sized);
    earlier = (ranges strictness).earlier;
    inside =
        λ j h. rw (tabled.ends Strict j h, tabled.ends strictness j h)
        (strict_inside (kept phrase stage) stage.boundaries strictness j);
    fits = λ i j h inside.
        let goes = admitted strictness i j h inside in
        let fits = fits_in_range (kept phrase stage) stage.boundaries i j strictness goes.1 in
        rw (tabled.bounded i (omega arith), tabled.bounded j h) (omega (arith, fits.0), omega (arith, fits.1));
    rows = λ i h. rw (tabled.rows i h) (row_before_law score_rows some most (boundary stage i));
    reached = λ s h. tabled.sinces strictness s h
        ∙ reached_same (low_origin (kept phrase stage) stage.boundaries) (origins_end strictness (kept phrase stage) stage.boundaries)
        (low_in t) (end_in t strictness) (length stage.boundaries)
        (λ j k. sym (tabled.lows j (omega (arith, tabled.sized))))
        (λ j k. sym (tabled.ends strictness j (omega (arith, tabled.sized)))) s
        ∙ ap (λ (n : ℕ). first_reached (low_in t) (end_in t strictness) n s) (sym tabled.sized);
  }
