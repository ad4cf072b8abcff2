-- What an accepted record gives every pass over the tables of its stage. Assumes nothing.
use mathlib.Core.Bool.{true}
use mathlib.Core.List.{List, [], ◌∷◌}
use mathlib.Core.Path.{◌≡◌, sym, ap, subst, subst⁻¹, ◌∙◌}
use Prim.Native.Nat.{ℕ, suc, ◌+◌, ◌≤◌, ◌<◌}
use native.Mathlib.Nat.{mul-le-mul, le_trans}
use native.Mathlib.Omega.{arith}
use lib.Ieee.{Float}
use lib.ListN.{length}
use Rattle.laws.proofs.Listed.{length_listed}
use Rattle.phrase.specs.Phrase.{Stage}
use Rattle.phrase.specs.declared.costs.Costs.{Costs}
use Rattle.paths.specs.declared.passes.Strictness.{Strictness}
use Rattle.paths.specs.declared.passes.Pass.{Pass}
use Rattle.paths.specs.declared.passes.Pass.TheVariants.{NucleiStrict, CountStrict, CountRelaxed, NucleiRelaxed}
use Rattle.paths.specs.Inner.Order.{Increasing}
use Rattle.paths.specs.Anchors.{kept}
use Rattle.paths.specs.Passes.{of_pass, pass_stage, pass_strictness, pass_problem, has_nucleus, non_empty}
use Rattle.paths.proofs.Anchors.{kept_in_le}
use Rattle.limits.specs.Inner.Moderate.{Moderate}
use Rattle.limits.specs.declared.edition.Limits.{Limits}
use Rattle.record.specs.declared.layout.Layout.{Layout}
use Rattle.record.specs.Inner.Accepted.{StageFit, Laid}
use Rattle.limits.specs.Sizes.{work_cells}
use Rattle.record.specs.Layout.{layout_of, limits_of}
use Rattle.record.specs.Meaning.{phrase_of, phrase_at}
use Rattle.record.specs.Conditions.{frame_at}
use Rattle.record.proofs.Accepted.{fit, own_moderate}
use Rattle.record.proofs.Reading.{nuclei_first, added_next}
use Rattle.limits.specs.Capacity.{most_boundaries}
use Rattle.stages.specs.Tables.{Tabled, tables_in}
use Rattle.rows.specs.Reads.{score_rows}
use Rattle.closed.specs.Asked.{CandidateIn, columns_of, asked_of, Agrees, cells_for, Unused, SearchInputs}
use Rattle.stages.specs.declared.stage_tables.StageTables.{StageTables}
use Rattle.closed.specs.Answered.{HoldsStage}
use Rattle.closed.proofs.Bridge.{agrees, readable}

-- what the tables of a stage are read by
record Fits (l : Limits) (stage : Stage) : Type 0 where
  anchors_up : Increasing stage.anchors
  bounds_up : Increasing stage.boundaries
  allowed : length stage.boundaries ≤ l.boundaries
  few : length stage.boundaries ≤ most_boundaries

fits : {l : Limits} {a : ℕ} {stage : Stage} → Moderate l → StageFit a l.boundaries stage → Fits l stage
fits m s = record {
  anchors_up = λ i k. s.anchors.rising i (suc i) (omega arith) k;
  bounds_up = λ i k. s.boundaries.rising i (suc i) (omega arith) k;
  allowed = s.few_boundaries;
  few = le_trans s.few_boundaries m.boundaries;
}

some_there : {A : Type 0} (l : List A) → non_empty l ≡ true → 0 < length l
some_there [] e = absurd (let z : ◌≡◌ {A = ℕ} 0 1 = cc in omega arith)
some_there (x ∷ l) e = omega arith

-- The layout has the number of boundaries of each stage.
boundary_count : {bytes : List ℕ} {at : Layout} → Laid bytes at → length (phrase_of bytes).nuclei.boundaries ≡ at.boundaries.count
unfolding phrase_of phrase_at
boundary_count {bytes} laid =
    length_listed (frame_at bytes (layout_of bytes).boundaries) (layout_of bytes).boundaries.count
    ∙ ap (λ (l : Layout). l.boundaries.count) (sym laid.layout)

added_count : {bytes : List ℕ} {at : Layout} → Laid bytes at → length (phrase_of bytes).added.boundaries ≡ at.added_boundaries.count
unfolding phrase_of phrase_at
added_count {bytes} laid =
    length_listed (frame_at bytes (layout_of bytes).added_boundaries) (layout_of bytes).added_boundaries.count ∙ ap (λ (l : Layout). l.added_boundaries.count) (sym laid.layout)

pub pass_count : {bytes : List ℕ} {at : Layout} → Laid bytes at → (pass : Pass)
    → length (pass_stage (phrase_of bytes) pass).boundaries ≡ of_pass at.boundaries.count at.added_boundaries.count pass
pass_count laid NucleiStrict = boundary_count laid
pass_count laid CountStrict = added_count laid
pass_count laid CountRelaxed = added_count laid
pass_count laid NucleiRelaxed = boundary_count laid

module _ {bytes : List ℕ} {at : Layout} {costs : Costs} {candidate : ℕ} (given : CandidateIn bytes at costs candidate) where
  stage_fits : (pass : Pass) → Fits (limits_of bytes) (pass_stage (phrase_of bytes) pass)
  stage_fits NucleiStrict = fits (own_moderate bytes) (fit given.laid).nuclei
  stage_fits CountStrict = fits (own_moderate bytes) (fit given.laid).added
  stage_fits CountRelaxed = fits (own_moderate bytes) (fit given.laid).added
  stage_fits NucleiRelaxed = fits (own_moderate bytes) (fit given.laid).nuclei

  rows_within : (pass : Pass)
      → (pass_stage (phrase_of bytes) pass).first_row + length (pass_stage (phrase_of bytes) pass).anchors ≤ score_rows (phrase_of bytes)
  rows_within NucleiStrict = omega (arith, nuclei_first bytes)
  rows_within CountStrict = omega (arith, added_next bytes)
  rows_within CountRelaxed = omega (arith, added_next bytes)
  rows_within NucleiRelaxed = omega (arith, nuclei_first bytes)

  some_row : has_nucleus (phrase_of bytes) ≡ true → 0 < score_rows (phrase_of bytes)
  unfolding has_nucleus
  some_row voiced =
      let phrase = phrase_of bytes in
      omega (
        arith,
        some_there (kept phrase phrase.nuclei) voiced,
        kept_in_le phrase.mask phrase.nuclei.first_row phrase.nuclei.anchors,
      )

  module _ (pass : Pass) {strictness : Strictness} {n : ℕ} (tables : StageTables)
      (lent : HoldsStage (phrase_of bytes) (pass_stage (phrase_of bytes) pass) tables)
      (held : strictness ≡ pass_strictness pass) (counted : n ≡ of_pass at.boundaries.count at.added_boundaries.count pass) where
    abbrev stage : Stage
    stage = pass_stage (phrase_of bytes) pass

    tabled : Tabled (phrase_of bytes) stage (tables_in n tables.words tables.figures)
    tabled =
        subst (λ (m : ℕ). Tabled (phrase_of bytes) stage (tables_in m tables.words tables.figures)) (pass_count given.laid pass ∙ sym counted)
        lent

    -- the tables are those of the pass's problem
    pub pass_agrees : Agrees (asked_of bytes candidate strictness n tables)
        (pass_problem (phrase_of bytes) pass (columns_of bytes candidate))
    pass_agrees =
        let f = stage_fits pass in
        subst⁻¹ (λ (x : Strictness). Agrees (asked_of bytes candidate x n tables)
        (pass_problem (phrase_of bytes) pass (columns_of bytes candidate))) held
        (agrees (phrase_of bytes) stage (tables_in n tables.words tables.figures) tabled f.anchors_up f.bounds_up f.few (pass_strictness pass)
        (columns_of bytes candidate))

    pub pass_inputs :
        {best : List Float} {back : List ℕ} → has_nucleus (phrase_of bytes) ≡ true → Unused best back (work_cells (limits_of bytes)) →
        SearchInputs bytes at costs candidate strictness n tables best back
    pass_inputs voiced unused = record {
      given = given;
      readable =
          let f = stage_fits pass in
          readable (phrase_of bytes) stage (tables_in n tables.words tables.figures) tabled f.anchors_up f.bounds_up f.few strictness
          (score_rows (phrase_of bytes)) (some_row voiced) (rows_within pass);
      some = (pass_problem (phrase_of bytes) pass (columns_of bytes candidate), pass_agrees);
      unused = record {
        values = omega (arith, cells, unused.values);
        marks = omega (arith, cells, unused.marks);
        zero = λ j h. unused.zero j (omega (arith, cells));
      };
    }
      where
        few : suc (length (columns_of bytes candidate)) ≤ suc (limits_of bytes).units
        few = omega (arith, ((fit given.laid).candidates candidate (record { id = 0; columns = [] }) given.listed).few_units)

        cells : cells_for (asked_of bytes candidate strictness n tables) ≤ work_cells (limits_of bytes)
        cells = mul-le-mul {m₂ = (limits_of bytes).boundaries} few (omega (arith, tabled.sized, (stage_fits pass).allowed))
