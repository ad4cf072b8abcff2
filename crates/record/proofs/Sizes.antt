-- What follows where conditions 3 and 4 do not hold.
use Prim.Native.Nat.{ℕ, ◌+◌, ◌-◌, ◌≤◌}
use mathlib.Core.Bool.{false, ◌&&◌}
use mathlib.Core.Path.{◌≡◌}
use native.Mathlib.Omega.{arith}
use borrow.Author.Tests.{ltb-false, eq-eqb}
use lib.Dec.{eqb, ltb}
use Rattle.laws.proofs.Numbers.{not_zero}
use Rattle.laws.proofs.Choices.{neither_left, neither_right, and_fails}
use Rattle.limits.specs.Inner.Moderate.{Moderate}
use Rattle.record.specs.Inner.Bounds.{Sized, Reaches, Reaching, Inside, Within, CandidatesRead}
use Rattle.record.specs.Layout.{layout_from}
use Rattle.record.specs.Conditions.{oversized, outside, overreaching}
use Rattle.limits.specs.declared.edition.Limits.{Limits}
use Rattle.record.specs.declared.trailer.Trailer.{Trailer}

pub sized : (l : Limits) (t : Trailer) → oversized l t ≡ false → Sized l t
unfolding oversized
sized l t e =
    record {
      frames = search (neither_left, neither_right, ltb-false) depth 12;
      nuclei = search (neither_left, neither_right, ltb-false) depth 12;
      boundaries = search (neither_left, neither_right, ltb-false) depth 12;
      added_anchors = search (neither_left, neither_right, ltb-false) depth 12;
      added_boundaries = search (neither_left, neither_right, ltb-false) depth 12;
      columns = search (neither_left, neither_right, ltb-false) depth 12;
      candidates = search (neither_left, neither_right, ltb-false) depth 12;
      some_column = search (neither_left, neither_right, not_zero) depth 12;
      nothing_added =
          λ none.
          let both : (eqb t.added_anchors.count 0 && ltb 0 t.added_boundaries.count) ≡ false =
          search (neither_left, neither_right) in
          let most : t.added_boundaries.count ≤ 0 =
          ltb-false 0 t.added_boundaries.count (and_fails _ _ both (eq-eqb t.added_anchors.count 0 none)) in
          omega arith;
    }

reaches : (end bytes back : ℕ) → outside end bytes back ≡ false → Reaches end bytes back
reaches end bytes back e = record { long = search (neither_left, ltb-false); inside = search (neither_left, neither_right, ltb-false) }

pub reaching : (l : Limits) (end : ℕ) (t : Trailer) → overreaching l end t ≡ false → Reaching l end t
unfolding overreaching
reaching l end t e =
    record {
      mask = reaches _ _ _ (search (neither_left, neither_right) depth 12);
      nuclei = reaches _ _ _ (search (neither_left, neither_right) depth 12);
      boundaries = reaches _ _ _ (search (neither_left, neither_right) depth 12);
      added_anchors = reaches _ _ _ (search (neither_left, neither_right) depth 12);
      added_boundaries = reaches _ _ _ (search (neither_left, neither_right) depth 12);
      scores = reaches _ _ _ (search (neither_left, neither_right) depth 12);
      candidates = reaches _ _ _ (search (neither_left, neither_right) depth 12);
      costs = reaches _ _ _ (search (neither_left, neither_right) depth 12);
    }

pub inside : (l : Limits) (end : ℕ) (t : Trailer) → Reaching l end t → Inside end t
inside l end t r =
    record {
      mask = r.mask.inside;
      nuclei = r.nuclei.inside;
      boundaries = r.boundaries.inside;
      added_anchors = r.added_anchors.inside;
      added_boundaries = r.added_boundaries.inside;
      scores = r.scores.inside;
      candidates = r.candidates.inside;
      costs = r.costs.inside;
    }

-- a section that starts `back` bytes before `end` ends before it
ends : {end bytes back : ℕ} → Reaches end bytes back → {long : ℕ} → end ≤ long → end - back + bytes ≤ long
ends r fits = omega arith

pub within_layout : (l : Limits) (end long : ℕ) (t : Trailer) → Reaching l end t → end ≤ long → Within long (layout_from end t)
unfolding layout_from
within_layout l end long t r fits =
    record {
      mask = ends r.mask fits;
      nuclei = ends r.nuclei fits;
      boundaries = ends r.boundaries fits;
      added_anchors = ends r.added_anchors fits;
      added_boundaries = ends r.added_boundaries fits;
      scores = ends r.scores fits;
      costs = ends r.costs fits;
    }

pub candidates_layout : (l : Limits) (end long : ℕ) (t : Trailer) → Moderate l → Reaching l end t → end ≤ long → CandidatesRead l long (layout_from end t)
unfolding layout_from
candidates_layout l end long t m r fits = record { moderate = m; section = ends r.candidates fits }
