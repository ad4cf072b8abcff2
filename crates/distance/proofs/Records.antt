-- Every path of an accepted record: its f64 sum differs from the exact sum by at most 2 ^ -21 (document 02, Ask 4), whatever figures the record
-- lends, and however many units the path has.
use Prim.Native.Nat.{ℕ, suc, ◌+◌, ◌*◌, ◌-◌}
use mathlib.Core.List.{List, [], ◌∷◌}
use mathlib.Core.Option.{none}
use mathlib.Core.Path.{◌≡◌, refl, sym, ap, subst}
use native.Mathlib.Omega.{arith}
use lib.Dec.{T, lit≤}
use lib.ListN.{length}
use Rattle.exact.specs.Theory.Close.{Close}
use Rattle.phrase.specs.Phrase.{Stage}
use Rattle.paths.specs.declared.passes.Strictness.{Strictness}
use Rattle.paths.specs.Inner.Order.{Increasing}
use Rattle.paths.specs.Path.{Path, sum, Admitted}
use Rattle.paths.specs.StageProblem.{problem_of}
use Rattle.paths.specs.Theory.Bounded.{filler_bound, Bounded}
use Rattle.paths.specs.Passes.{non_empty}
use Rattle.paths.proofs.PathRoutes.{end_inside}
use Rattle.record.specs.Layout.{trailer_of, layout_of, limits_of}
use Rattle.record.specs.Meaning.{phrase_of, stage_of}
use Rattle.record.specs.Refusals.{refusal_of}
use Rattle.record.specs.Inner.Accepted.{Frames}
use Rattle.record.specs.declared.read.Which.{Which}
use Rattle.record.specs.declared.read.Which.TheVariants.{Nuclei, Count}
use Rattle.decoding.specs.Theory.Ranges.{ranges_of}
use Rattle.decoding.proofs.Bounded.{phrase_fit, columns_bounded}
use Rattle.distance.specs.ExactSum.{exact_sum}
use Rattle.distance.specs.ExactStage.{exact_of}
use Rattle.distance.specs.Distance.{sum_digits, ColumnsBelow, NearExact}
use Rattle.distance.specs.Theory.Growth.{grain_of, sum_grains, unit_bound}
use Rattle.distance.proofs.Paths.{sum_close}
use Rattle.distance.proofs.Figures.{figures_close}
use Rattle.distance.proofs.Powers.{near_exact}
use Rattle.distance.proofs.Editions.{growth, sharp}

in_order : {frames : List ℕ} → Frames frames → Increasing frames
in_order fit i h = fit.rising i (suc i) (omega arith) h

module _ (bytes : List ℕ) (accepted : refusal_of bytes ≡ none) (columns : List ℕ) (below : ColumnsBelow (layout_of bytes).scores.count columns)
  where
    -- a path's sum beside its exact sum, in grains
    abbrev pub SumClose : Stage → Strictness → Path → Type 0
    SumClose stage strictness path =
        Close (grain_of growth) (sum (problem_of (phrase_of bytes) stage strictness columns) path)
        (exact_sum (exact_of (phrase_of bytes) stage columns) path)
        (filler_bound (ranges_of (limits_of bytes)) + unit_bound (ranges_of (limits_of bytes)) * ((limits_of bytes).boundaries - 1))
        (sum_grains growth (limits_of bytes).boundaries)

    stage_close : {stage : Stage} → Bounded (ranges_of (limits_of bytes)) (phrase_of bytes) stage columns → Frames stage.boundaries
        → (strictness : Strictness) {path : Path} → Admitted (problem_of (phrase_of bytes) stage strictness columns) path
        → SumClose stage strictness path
    stage_close bounded frames strictness admitted =
        let enough = sharp (trailer_of bytes).edition in
        sum_close enough bounded.boundaries (figures_close enough bounded strictness (in_order frames)) admitted

    -- where the record has no added stage, there are no boundaries and so no paths
    pub path_close : (which : Which) (strictness : Strictness) {path : Path}
        → Admitted (problem_of (phrase_of bytes) (stage_of which (phrase_of bytes)) strictness columns) path
        → SumClose (stage_of which (phrase_of bytes)) strictness path
    path_close Nuclei strictness admitted =
        stage_close (columns_bounded bytes accepted columns below).nuclei (phrase_fit bytes accepted).nuclei.boundaries strictness admitted
    path_close Count strictness {path} admitted = go (phrase_of bytes).added.anchors refl
      where
        go : (anchors : List ℕ) → (phrase_of bytes).added.anchors ≡ anchors → SumClose (phrase_of bytes).added strictness path
        go [] e =
            let lacking = (phrase_fit bytes accepted).nothing_added (ap length e) in
            absurd (omega (arith, lacking, end_inside admitted))
        go (anchor ∷ more) e =
            stage_close ((columns_bounded bytes accepted columns below).added (subst (λ (l : List ℕ). T (non_empty l)) (sym e) tt))
            (phrase_fit bytes accepted).added.boundaries strictness admitted

    pub every_path : (which : Which) (strictness : Strictness) (path : Path)
        → Admitted (problem_of (phrase_of bytes) (stage_of which (phrase_of bytes)) strictness columns) path
        → NearExact (phrase_of bytes) (stage_of which (phrase_of bytes)) columns path
        (sum (problem_of (phrase_of bytes) (stage_of which (phrase_of bytes)) strictness columns) path)
    every_path which strictness path admitted =
        let close = path_close which strictness admitted in
        record {
          is_finite = close.within.real.is_finite;
          near = near_exact sum_digits (lit≤ tt) close (sharp (trailer_of bytes).edition).enough;
        }
