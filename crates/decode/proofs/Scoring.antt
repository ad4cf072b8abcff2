-- From what the search says of a candidate to its entry.
use Prim.Native.Nat.{ℕ, zero, suc, ◌≤◌, ◌<◌}
use mathlib.Core.Bool.{not}
use mathlib.Core.List.{List, ◌∷◌, map}
use mathlib.Core.Path.{◌≡◌, refl, sym, ap, subst, ◌∙◌}
use native.Mathlib.Omega.{arith}
use lib.Dec.{T}
use Rattle.std.proofs.lemmas.List.{take_at}
use Rattle.std.specs.Prelude.{Ok, Err, Option, Some, IsSome, take}
use lib.ListN.{length, length-map, replicate}
use lib.Ieee.{Float, is_nan}
use Rattle.ieee.specs.Convert.{clamped_log}
use Rattle.ieee.specs.Inner.Conversions.{ClampedLog}
use Rattle.ieee.proofs.Value.{finite_number}
use Rattle.limits.specs.Capacity.{most_units}
use Rattle.phrase.specs.Phrase.{Phrase, Candidate}
use Rattle.phrase.specs.Inner.Unanchored.{unanchored_units}
use Rattle.paths.specs.declared.passes.Strictness.{Strictness}
use Rattle.paths.specs.declared.passes.Pass.{Pass}
use Rattle.paths.specs.declared.passes.Pass.TheVariants.{NucleiStrict, CountStrict, CountRelaxed, NucleiRelaxed}
use Rattle.paths.specs.Path.{Path, Admitted, units_of}
use Rattle.paths.specs.Passes.{of_pass, pass_number, pass_stage, pass_strictness, pass_problem, in_order}
use Rattle.paths.specs.Demand as D
use Rattle.paths.specs.Demand.{Answer, answer_number}
use Rattle.paths.specs.Search.{chosen}
use Rattle.paths.specs.StageProblem.{problem_of}
use Rattle.paths.proofs.PathUnits.{units_count, units_in_order}
use Rattle.rows.specs.declared.trace.Bounds.{Bounds}
use Rattle.std.specs.Borrow.{Bor}
use Rattle.stages.specs.declared.stage_tables.StageTables.{StageTables}
use Rattle.rows.specs.Traced.{held_bounds}
use Rattle.closed.specs.declared.search.Found.{Found}
use Rattle.closed.specs.declared.search.Missed.{Missed}
use Rattle.closed.specs.Answered.{Says, missed_word}
use Rattle.closed.specs.Asked.{columns_of}
use Rattle.record.specs.Layout.{layout_of, limits_of}
use Rattle.record.specs.Meaning.{phrase_of, stage_of}
use Rattle.record.specs.Inner.Accepted.{Laid, CandidateFit}
use Rattle.record.specs.Inner.Reading.{candidate_of}
use Rattle.record.specs.declared.layout.Layout.{Layout}
use Rattle.record.specs.declared.read.Which.{Which}
use Rattle.record.specs.declared.read.Which.TheVariants.{Nuclei, Count}
use Rattle.record.proofs.Accepted.{fit, own_moderate}
use Rattle.record.proofs.Reading.{few_units_law as candidate-units}
use Rattle.prepare.proofs.Parts.{few_boundaries_law, anchors_fit, boundaries_fit}
use Rattle.entries.specs.Inner.EntryFrom.{unit_from}
use Rattle.entries.specs.declared.words.EntryHead.{EntryHead}
use Rattle.decode.specs.declared.plan.Plan.{Plan}
use Rattle.frames.specs.declared.unit.PlacedUnit.{PlacedUnit}
use Rattle.clip.specs.Inner.Units.{Clipped}
use Rattle.decoding.specs.EntryOf.{missed_total, missed_units, total_of, units_for, entry_for, entry_by, entry_of}
use Rattle.decode.specs.Places.{place_of, Placeable, missed_at}
use Rattle.decode.specs.Plans.{PreparedTables, DecodeInputs}
use Rattle.decode.specs.Scored.{HeadOf, ScoredAs}
use Rattle.decoding.proofs.Demands.{answered}
use Rattle.decoding.proofs.Totals.{total_real}
use Rattle.decoding.proofs.Units.{length_units}
use Rattle.decode.proofs.Reporting as Reporting
use Rattle.decode.proofs.Said.{FoundPath, says_found, says_missed}
use Rattle.decode.proofs.Tried.{added_exists}
use Rattle.decoding.proofs.Admitted.{each_ok}

map_replicate : {A B : Type 0} (f : A → B) (n : ℕ) (x : A) → map f (replicate n x) ≡ replicate n (f x)
map_replicate f zero x = refl
map_replicate f (suc n) x = ap (λ xs. f x ∷ xs) (map_replicate f n x)

-- ---- one candidate of those that a decoder has

module _ {bytes : List ℕ} {at : Layout} (laid : Laid bytes at) {plan : Plan} {nuclei : Bor StageTables} {added : Option (Bor StageTables)}
    (inputs : DecodeInputs bytes plan nuclei added) {candidate : ℕ} (below : candidate < length (phrase_of bytes).candidates) where
  abbrev phrase : Phrase
  phrase = phrase_of bytes

  abbrev chosen_one : Candidate
  chosen_one = candidate_of phrase candidate

  abbrev columns : List ℕ
  columns = columns_of bytes candidate

  fits : CandidateFit (limits_of bytes).units at.scores.count chosen_one
  fits = (fit laid).candidates candidate _ below

  pub few_units_law : length columns ≤ most_units
  few_units_law = candidate-units laid below

  laid_fits : CandidateFit (limits_of bytes).units (layout_of bytes).scores.count chosen_one
  laid_fits = subst (λ (x : Layout). CandidateFit (limits_of bytes).units x.scores.count chosen_one) laid.layout fits

  demanded : D.Demanded phrase columns (chosen phrase columns)
  demanded = answered bytes laid.accepted laid_fits

  -- the total of the entry is no NaN
  total_number_law : (a : Answer) → chosen phrase columns ≡ a → T (not (is_nan (total_of phrase (length columns) a)))
  total_number_law a is =
      finite_number _ (total_real bytes laid.accepted laid_fits (subst (D.Demanded phrase columns) is demanded)).is_finite

  -- an entry, from its parts
  scored_as : (a : Answer) → chosen phrase columns ≡ a → (head : EntryHead) (units : List PlacedUnit) → head.id ≡ chosen_one.id
      → head.pass ≡ answer_number a → head.total ≡ total_of phrase (length columns) a → ClampedLog head.total head.llr
      → map unit_from units ≡ units_for phrase (length columns) a → ScoredAs (limits_of bytes).units (entry_of phrase chosen_one) head units
  unfolding entry_by entry_for
  scored_as a is head units named numbered summed clamped units_are = record {
    whole =
        (λ i. record {
          id = named i;
          pass = numbered i;
          total = summed i;
          llr = (clamped.value ∙ ap clamped_log summed) i;
          units = units_are i;
        })
        ∙ ap (entry_for phrase chosen_one) (sym is);
    writable =
        record {
          room = (own_moderate bytes).units;
          few =
              omega (
                arith,
                length-map units unit_from,
                ap length units_are,
                length_units (subst (D.Demanded phrase columns) is demanded),
                fits.few_units,
              );
          number = finite_number _ clamped.within.real.is_finite;
          total_number = subst (λ (x : Float). T (not (is_nan x))) (sym summed) (total_number_law a is);
        };
  }

  -- ---- a path, in the stage of its pass

  pass_there : (pass : Pass) → D.FirstOf phrase columns pass (in_order phrase) → IsSome (of_pass (Some nuclei) added pass)
  pass_there NucleiStrict first = refl
  pass_there CountStrict first = inputs.added_there ∙ added_exists first tt
  pass_there CountRelaxed first = inputs.added_there ∙ added_exists first tt
  pass_there NucleiRelaxed first = refl

  pass_prepared : (pass : Pass) (tables : Bor StageTables) → of_pass (Some nuclei) added pass ≡ Some tables
      → PreparedTables phrase (pass_stage phrase pass) tables
  pass_prepared NucleiStrict tables is = let e : nuclei ≡ tables = cc in subst (PreparedTables phrase phrase.nuclei) e inputs.nuclei_prepared
  pass_prepared CountStrict tables is = inputs.added_prepared tables is
  pass_prepared CountRelaxed tables is = inputs.added_prepared tables is
  pass_prepared NucleiRelaxed tables is = let e : nuclei ≡ tables = cc in subst (PreparedTables phrase phrase.nuclei) e inputs.nuclei_prepared

  found_in : (which : Which) (strictness : Strictness) (tables : Bor StageTables) {path : Path} → PreparedTables phrase (stage_of which phrase) tables
      → Admitted (problem_of phrase (stage_of which phrase) strictness columns) path
      → Reporting.Found phrase (stage_of which phrase) strictness tables.now (units_of path)
  found_in which strictness tables prepared admitted = record {
    prepared = prepared;
    few_boundaries = few_boundaries_law laid which;
    up = (anchors_fit laid which).ascending;
    bounds_up = (boundaries_fit laid which).ascending;
    ok = each_ok phrase (stage_of which phrase) strictness columns (units_in_order admitted);
  }

  module _ (found : Found) (says : Says (chosen phrase columns) (Ok found)) where
    abbrev it : FoundPath (chosen phrase columns) found
    it = says_found (chosen phrase columns) found says

    found_there : {a : Answer} → D.Demanded phrase columns a → (path : Path) → a ≡ D.found found.pass path found.path.sum
        → D.Found phrase columns found.pass path found.path.sum
    found_there {a} d path is = go (subst (D.Demanded phrase columns) is d)
      where
        go : D.Demanded phrase columns (D.found found.pass path found.path.sum) → D.Found phrase columns found.pass path found.path.sum
        go (D.a_path f) = f

    abbrev shown : D.Found phrase columns found.pass it.path found.path.sum
    shown = found_there demanded it.path it.is

    pub tables_there : IsSome (of_pass (Some nuclei) added found.pass)
    tables_there = pass_there found.pass shown.first

    units_few : length (units_of it.path) ≡ length columns
    units_few = units_count it.path ∙ shown.best.counted

    -- the bounds of the path's units stand in front
    front : (k : ℕ) → k ≡ length columns → take k found.path.units ≡ map held_bounds (units_of it.path)
    front k counted =
        ap (take k) it.units
        ∙ take_at (map held_bounds (units_of it.path)) _ k (length-map (units_of it.path) held_bounds ∙ units_few ∙ sym counted)

    module _ (tables : Bor StageTables) (theirs : of_pass (Some nuclei) added found.pass ≡ Some tables) where
      path_found : Reporting.Found phrase (pass_stage phrase found.pass) (pass_strictness found.pass) tables.now (units_of it.path)
      path_found = go found.pass it.path (pass_prepared found.pass tables theirs) shown.best.admitted
        where
          go : (pass : Pass) (path : Path) → PreparedTables phrase (pass_stage phrase pass) tables
              → Admitted (pass_problem phrase pass columns) path
              → Reporting.Found phrase (pass_stage phrase pass) (pass_strictness pass) tables.now (units_of path)
          go NucleiStrict path prepared admitted = found_in Nuclei _ tables prepared admitted
          go CountStrict path prepared admitted = found_in Count _ tables prepared admitted
          go CountRelaxed path prepared admitted = found_in Count _ tables prepared admitted
          go NucleiRelaxed path prepared admitted = found_in Nuclei _ tables prepared admitted

      pub can_place : (k : ℕ) → k ≡ length columns
          → Placeable (take k found.path.units) × (length (take k found.path.units) ≡ k)
      can_place k counted = (
        subst Placeable (sym (front k counted)) (Reporting.placeable path_found),
        ap length (front k counted) ∙ length-map (units_of it.path) held_bounds ∙ units_few ∙ sym counted,
      )

      pub scored_found : {k id number : ℕ} {head : EntryHead} {units : List PlacedUnit} → k ≡ length columns → id ≡ chosen_one.id
          → number ≡ pass_number found.pass → HeadOf id number found.path.sum head
          → Clipped (map (place_of tables.now.words) (take k found.path.units)) units
          → ScoredAs (limits_of bytes).units (entry_of phrase chosen_one) head units
      scored_found {k} {head = head} {units = units} counted named numbered headed clipped =
          scored_as (D.found found.pass it.path found.path.sum) it.is head units (headed.named ∙ named) (headed.numbered ∙ numbered) headed.summed
          headed.clamped
          (Reporting.reports path_found
          (subst (λ (path : List Bounds). Clipped (map (place_of tables.now.words) path) units) (front k counted) clipped))

  pub scored_missed : (missed : Missed) (says : Says (chosen phrase columns) (Err missed))
      → {k id number : ℕ} {total : Float} {head : EntryHead} {units : List PlacedUnit} → k ≡ length columns → id ≡ chosen_one.id
      → number ≡ missed_word missed → total ≡ unanchored_units plan.costs k → HeadOf id number total head
      → units ≡ replicate k (missed_at plan.edges.start) → ScoredAs (limits_of bytes).units (entry_of phrase chosen_one) head units
  scored_missed missed says {head = head} {units = units} counted named numbered summed headed missed_are =
      let a : Answer = chosen phrase columns in
      let n : ℕ = length columns in
      let pathless = says_missed
      (λ answer number. (answer_number answer ≡ number) × (total_of phrase n answer ≡ missed_total phrase n) × (units_for phrase n answer ≡ missed_units phrase n))
      (refl, refl, refl) (refl, refl, refl) a missed says in
      scored_as a refl head units (headed.named ∙ named) (headed.numbered ∙ numbered ∙ sym pathless.0)
      (headed.summed ∙ summed ∙ (λ i. unanchored_units (inputs.planned.costs i) (counted i)) ∙ sym pathless.1) headed.clamped
      (ap (map unit_from) missed_are ∙ map_replicate unit_from _ (missed_at plan.edges.start)
      ∙ (λ i. replicate (counted i) (unit_from (missed_at (inputs.planned.low i)))) ∙ sym pathless.2)
