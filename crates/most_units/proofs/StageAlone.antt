-- The most units go by the mask and by the anchors and boundaries of the stage alone: not by speech, the other stage, a figure or a candidate.
-- A pass admits a path of a candidate's count exactly where that count is at most the most units of its stage and strictness. Assumes nothing.
use Prim.Native.Nat.{ℕ, ◌-◌, ◌≤◌, ◌<◌}
use mathlib.Core.Bool.{◌&&◌}
use mathlib.Core.List.{List, []}
use mathlib.Core.Logic.{◌↔◌}
use mathlib.Core.Option.{some-ne-none, none as none_given}
use mathlib.Core.Path.{◌≡◌, refl, sym, ap, subst, ◌∙◌}
use lib.Dec.{T}
use lib.ListN.{length, get_or}
use Rattle.std.specs.Prelude.{Option, Some, None, Result, Ok, Err}
use Rattle.limits.specs.declared.refusal.Refusal.{Refusal}
use Rattle.phrase.specs.Phrase.{Phrase, Stage}
use Rattle.paths.specs.declared.passes.Strictness.{Strictness}
use Rattle.paths.specs.declared.passes.Pass.{Pass}
use Rattle.paths.specs.declared.passes.Pass.TheVariants.{NucleiStrict, CountStrict, CountRelaxed, NucleiRelaxed}
use Rattle.paths.specs.Path.{Path, Admitted, HasPath, NoPath}
use Rattle.paths.specs.Problem.{Problem}
use Rattle.paths.specs.Anchors.{kept_in, held_in}
use Rattle.paths.specs.Units.{fits_unit, may_hold, admits_unit}
use Rattle.paths.specs.StageProblem.{boundary, problem_of}
use Rattle.paths.specs.Passes.{pass_stage, pass_strictness, speaks, in_order}
use Rattle.paths.specs.Demand.{Admits, AdmitsNone, EachPass, all_done, each_of, Demanded, no_path, none}
use Rattle.paths.proofs.Anchors.{held_alike}
use Rattle.paths.proofs.AgreeingProblems.{admitted_alike}
use Rattle.record.specs.Layout.{limits_of}
use Rattle.record.specs.Meaning.{phrase_of, stage_of}
use Rattle.record.specs.Refusals.{refusal_of}
use Rattle.laws.proofs.Numbers.{by_order}
use Rattle.most_units.specs.Most.{paths_of, Most}
use Rattle.most_units.specs.Answers.{Answers, is_refused, no_boundary, is_counted}
use Rattle.most_units.specs.Theory.Heard.{MostIn, which_of, Short, nothing_fits, too_few}
use Rattle.most_units.proofs.Largest.{counts_exactly}

-- ---- what plays no part

module _ {q q' : Problem} (sized : q.size ≡ q'.size) (allowed : (i j : ℕ) → q.unit_ok i j ≡ q'.unit_ok i j) where
  there_too : {k : ℕ} → HasPath q k → HasPath q' k
  there_too path = (path.0, admitted_alike sized (λ i j _ _. allowed i j) path.1, path.2)

  most_too : {cap units : ℕ} → Most q cap units → Most q' cap units
  most_too m = record {
    there = there_too m.there;
    largest = λ below path a. m.largest below path (admitted_alike (sym sized) (λ i j _ _. sym (allowed i j)) a);
    smaller = λ k h. there_too (m.smaller k h);
    capped = m.capped;
  }

-- two stages with the same frames, under one mask
pub stage_alone :
    (phrase phrase' : Phrase) (stage stage' : Stage) → phrase.mask ≡ phrase'.mask → stage.anchors ≡ stage'.anchors →
    stage.boundaries ≡ stage'.boundaries → (strictness : Strictness) (columns columns' : List ℕ) {cap units : ℕ} →
    Most (problem_of phrase stage strictness columns) cap units → Most (problem_of phrase' stage' strictness columns') cap units
unfolding admits_unit
stage_alone phrase phrase' stage stage' masked anchored bounded strictness columns columns' =
    most_too (ap length bounded)
    (λ i j.
    (λ k.
    let from = get_or (bounded k) i 0 in
    let to = get_or (bounded k) j 0 in
    fits_unit (to - from) && may_hold strictness (length (held_in (kept_in (masked k) stage.first_row (anchored k)) from to)))
    ∙ ap (λ (n : ℕ). fits_unit (boundary stage' j - boundary stage' i) && may_hold strictness n)
    (held_alike phrase'.mask stage'.anchors stage.first_row stage'.first_row (boundary stage' i) (boundary stage' j)))

-- so any candidate's columns do: the same paths are admitted,
pub any_columns : (phrase : Phrase) (stage : Stage) (strictness : Strictness) (columns : List ℕ) (path : Path)
    → Admitted (paths_of phrase stage strictness) path ↔ Admitted (problem_of phrase stage strictness columns) path
any_columns phrase stage strictness columns path = (admitted_alike refl (λ i j _ _. refl), admitted_alike refl (λ i j _ _. refl))

-- and the most units are the same
pub same_most : (phrase : Phrase) (stage : Stage) (strictness : Strictness) (columns : List ℕ) {cap units : ℕ}
    → Most (paths_of phrase stage strictness) cap units ↔ Most (problem_of phrase stage strictness columns) cap units
same_most phrase stage strictness columns = (
  stage_alone phrase phrase stage stage refl refl refl strictness [] columns,
  stage_alone phrase phrase stage stage refl refl refl strictness columns [],
)

-- ---- the most units and what decoding says

module _ (phrase : Phrase) (columns : List ℕ) {cap : ℕ} (few : length columns ≤ cap) where
  pub admits_exactly : (pass : Pass) {units : ℕ} → MostIn phrase pass cap units → Admits phrase columns pass ↔ (length columns ≤ units)
  admits_exactly pass {units} most =
      counts_exactly ((same_most phrase (pass_stage phrase pass) (pass_strictness pass) columns).0 most) (length columns) few

  -- where there is no path though there is speech, each pass that was run has room for fewer units
  too_short :
      Demanded phrase columns none → T (speaks phrase.speech) →
      EachPass (λ pass. (units : ℕ) → MostIn phrase pass cap units → units < length columns) (in_order phrase)
  unfolding NoPath
  too_short (no_path voiced missing) spoken = each (missing spoken)
    where
      each : {passes : List Pass} → EachPass (AdmitsNone phrase columns) passes
          → EachPass (λ pass. (units : ℕ) → MostIn phrase pass cap units → units < length columns) passes
      each all_done = all_done
      each (each_of {pass = pass} missed more) =
          each_of
          (λ units most.
          by_order units (length columns) (λ h. h)
          (λ enough. let path = (admits_exactly pass most).1 enough in absurd (missed path.0 path.1 path.2)))
          (each more)

-- ---- and what is answered for them

-- "fewer syllables were heard than the word has": where decoding says "none" of a candidate, though there is speech, the most units are too
-- few in every pass that was run
pub fewer_heard :
    (bytes : List ℕ) → refusal_of bytes ≡ none_given → (columns : List ℕ) → length columns ≤ (limits_of bytes).units →
    Demanded (phrase_of bytes) columns none → T (speaks (phrase_of bytes).speech) →
    EachPass (λ pass. (a : Result (Option ℕ) Refusal) → Answers bytes (which_of pass) (pass_strictness pass) a → Short (length columns) a)
    (in_order (phrase_of bytes))
fewer_heard bytes accepted columns few demanded spoken = each (too_short (phrase_of bytes) columns few demanded spoken)
  where
    staged : (pass : Pass) → stage_of (which_of pass) (phrase_of bytes) ≡ pass_stage (phrase_of bytes) pass
    staged NucleiStrict = refl
    staged CountStrict = refl
    staged CountRelaxed = refl
    staged NucleiRelaxed = refl

    one : (pass : Pass) → ((units : ℕ) → MostIn (phrase_of bytes) pass (limits_of bytes).units units → units < length columns)
        → (a : Result (Option ℕ) Refusal) → Answers bytes (which_of pass) (pass_strictness pass) a → Short (length columns) a
    one pass short (Err refusal) (is_refused e) = absurd (some-ne-none refusal (sym e ∙ accepted))
    one pass short (Ok None) (no_boundary e bare) = nothing_fits
    one pass short (Ok (Some units)) (is_counted e most) =
        too_few
        (short units
        (subst (λ (stage : Stage). Most (paths_of (phrase_of bytes) stage (pass_strictness pass)) (limits_of bytes).units units)
        (staged pass) most))

    each : {passes : List Pass}
        → EachPass (λ pass. (units : ℕ) → MostIn (phrase_of bytes) pass (limits_of bytes).units units → units < length columns) passes
        → EachPass (λ pass. (a : Result (Option ℕ) Refusal) → Answers bytes (which_of pass) (pass_strictness pass) a → Short (length columns) a) passes
    each all_done = all_done
    each (each_of {pass = pass} short more) = each_of (one pass short) (each more)
