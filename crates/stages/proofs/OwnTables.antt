-- The tables made of a phrase's parts are those of its stage, and stand in the code's structs.
use Prim.Native.Nat.{ℕ, suc, ◌+◌, ◌-◌, ◌≤◌, ◌<◌}
use mathlib.Core.Path.{◌≡◌, refl, sym, ap, ap₂, ◌∙◌}
use mathlib.Core.List.{List}
use native.Mathlib.Omega.{arith}
use native.Mathlib.Numerals.{add-one}
use lib.ListN.{length, get_or}
use lib.Ieee.{Float, nan, neg}
use Rattle.laws.proofs.Listed.{table_at_law, get_d_listed}
use Rattle.phrase.specs.declared.costs.Costs.{Costs}
use Rattle.phrase.specs.Phrase.{Phrase, Stage}
use Rattle.phrase.specs.Filler.{filler_cost}
use Rattle.paths.specs.Frames.{speech_in}
use Rattle.paths.specs.Anchors.{kept_in, kept, held_in}
use Rattle.limits.specs.Common.{shortest_unit, longest_unit}
use Rattle.paths.specs.declared.passes.Strictness.{Strictness}
use Rattle.paths.specs.declared.passes.Strictness.TheVariants.{Strict, Relaxed}
use Rattle.paths.specs.Inner.Ranges.{low_origin, origins_end, row_before}
use Rattle.paths.specs.StageProblem.{cost, boundary}
use Rattle.limits.specs.Capacity.{most_boundaries, unit_counts}
use Rattle.stages.specs.declared.stage_tables.StageFigures.{StageFigures}
use Rattle.stages.specs.declared.stage_tables.StageWords.{StageWords}
use Rattle.stages.specs.Tables.{StageTables, Tabled, tables_in, ends_in, since_in, reached_in}
use Rattle.stages.specs.Edges.{edge}
use Rattle.stages.specs.Filler.{no_cost}
use Rattle.stages.specs.Parts.{cost_of, Fills, Searched}
use Rattle.stages.specs.Made.{tables_of}
use Rattle.stages.proofs.Edges.{edge_in}

cost_is : (phrase : Phrase) → phrase.nuclei.first_row ≡ 0 → (from to : ℕ)
    → cost_of phrase.costs phrase.mask (kept_in phrase.mask 0 phrase.nuclei.anchors) from to ≡ cost phrase from to
unfolding cost_of cost
cost_is phrase e from to =
    ap (λ (row : ℕ). filler_cost phrase.costs (speech_in phrase.mask from to)
    (length (held_in (kept_in phrase.mask row phrase.nuclei.anchors) from to))) (sym e)

module _ (phrase : Phrase) (stage : Stage) (duration : List Float) (numbered : phrase.nuclei.first_row ≡ 0)
    (timed : (d : ℕ) → shortest_unit ≤ d → d ≤ longest_unit → get_or duration (d - shortest_unit) nan ≡ stage.duration d) where
  here : (i : ℕ) → i < length stage.boundaries → edge stage.boundaries (length phrase.mask) i ≡ boundary stage i
  here i h = edge_in stage.boundaries (length phrase.mask) i h

  abbrev tables : StageTables
  tables = tables_of phrase.mask phrase.nuclei.anchors stage.anchors stage.first_row stage.boundaries duration phrase.costs

  own_ends : (strictness : Strictness) (j : ℕ) → j < length stage.boundaries
      → get_or (ends_in tables strictness) j 0 ≡ origins_end strictness (kept phrase stage) stage.boundaries j
  unfolding tables_of
  own_ends Strict j h =
      table_at_law (origins_end Strict (kept phrase stage) stage.boundaries) (length stage.boundaries) most_boundaries 0 0 j h
  own_ends Relaxed j h =
      table_at_law (origins_end Relaxed (kept phrase stage) stage.boundaries) (length stage.boundaries) most_boundaries 0 0 j h

  own_sinces : (strictness : Strictness) (s : ℕ) → s < unit_counts
      → get_or (since_in tables strictness) s 0 ≡ reached_in phrase stage strictness s
  unfolding tables_of
  own_sinces Strict s h = get_d_listed (reached_in phrase stage Strict) unit_counts s 0 h
  own_sinces Relaxed s h = get_d_listed (reached_in phrase stage Relaxed) unit_counts s 0 h

  pub own_tables : Tabled phrase stage
      (tables_of phrase.mask phrase.nuclei.anchors stage.anchors stage.first_row stage.boundaries duration phrase.costs)
  unfolding tables_of
  own_tables = record {
    sized = refl;
    bounded = λ i h. table_at_law (λ j. get_or stage.boundaries j 0) (length stage.boundaries) most_boundaries 0 0 i h;
    started = λ i h.
        table_at_law (λ j. neg
        (cost_of phrase.costs phrase.mask (kept_in phrase.mask 0 phrase.nuclei.anchors) 0
        (edge stage.boundaries (length phrase.mask) j)))
        (length stage.boundaries) most_boundaries no_cost nan i h
        ∙ ap neg (cost_is phrase numbered 0 (edge stage.boundaries (length phrase.mask) i) ∙ ap (cost phrase 0) (here i h));
    gapped = λ i h.
        table_at_law (λ j.
        cost_of phrase.costs phrase.mask (kept_in phrase.mask 0 phrase.nuclei.anchors)
        (edge stage.boundaries (length phrase.mask) j)
        (edge stage.boundaries (length phrase.mask) (j + 1)))
        (length stage.boundaries) most_boundaries no_cost nan i (omega arith)
        ∙ cost_is phrase numbered _ _
        ∙ ap₂ (cost phrase) (here i (omega arith))
        (ap (λ (n : ℕ). edge stage.boundaries (length phrase.mask) n) (add-one i) ∙ here (suc i) h);
    stopped = λ i h.
        table_at_law (λ j.
        cost_of phrase.costs phrase.mask (kept_in phrase.mask 0 phrase.nuclei.anchors)
        (edge stage.boundaries (length phrase.mask) j) (length phrase.mask))
        (length stage.boundaries) most_boundaries no_cost nan i h
        ∙ cost_is phrase numbered _ _ ∙ ap (λ (b : ℕ). cost phrase b (length phrase.mask)) (here i h);
    lows = λ j h. table_at_law (low_origin (kept phrase stage) stage.boundaries) (length stage.boundaries) most_boundaries 0 0 j h;
    ends = own_ends;
    rows =
        λ j h. table_at_law (λ i. row_before 0 (kept phrase stage) (get_or stage.boundaries i 0))
        (length stage.boundaries) most_boundaries 0 0 j h;
    sinces = own_sinces;
    durations = timed;
  }

-- The tables that stand in the structs.
pub laid : (mask nuclei anchors : List ℕ) (first_row : ℕ) (bounds : List ℕ) (duration : List Float) (costs : Costs) (words : StageWords)
    (figures : StageFigures)
    → Searched (kept_in mask first_row anchors) bounds words
    → Fills costs mask (kept_in mask 0 nuclei) bounds figures.filler → figures.durations ≡ duration
    → tables_in (length bounds) words figures ≡ tables_of mask nuclei anchors first_row bounds duration costs
unfolding tables_of
laid mask nuclei anchors first_row bounds duration costs words figures searched fills timed i = record {
  size = length bounds;
  bounds = searched.bounded i;
  start = fills.started i;
  gap = fills.gapped i;
  stop = fills.stopped i;
  low = searched.lows i;
  middle = searched.middles i;
  high = searched.highs i;
  row = searched.ranks i;
  since_strict = searched.strict i;
  since_relaxed = searched.relaxed i;
  duration = timed i;
}
