-- Phrases that read alike for two candidates have the same answer: each pass has the same path, with the same sum, or none. Assumes
-- nothing.
use Prim.Native.Nat.{ℕ, suc, ◌+◌, ◌-◌, ◌≤◌, ◌<◌}
use native.Mathlib.Omega.{arith}
use native.Mathlib.Nat.{le_of_eq}
use mathlib.Core.Path.{◌≡◌, refl, sym, ap, ap₂, subst, ◌∙◌}
use mathlib.Core.Bool.{Bool, not, cond, ◌&&◌}
use mathlib.Core.List.{List, []}
use lib.Dec.{T, leb, leb→le}
use lib.ListN.{length, get_or}
use lib.Ieee.{Float, binary64, nan, add, neg}
use lib.Ieee.Fits.{and_l, and_r}
use Rattle.laws.proofs.Tests.{by_choice}
use Rattle.laws.specs.Inner.Each.{Each, each_none, each_more}
use Rattle.phrase.specs.Phrase.{Phrase, Stage, Speech}
use Rattle.paths.specs.declared.passes.Strictness.{Strictness}
use Rattle.paths.specs.declared.passes.Strictness.TheVariants.{Strict, Relaxed}
use Rattle.paths.specs.declared.passes.Pass.{Pass}
use Rattle.paths.specs.Problem.{Problem}
use Rattle.paths.specs.Path.{Path, count, Admitted, Best, NoPath}
use Rattle.paths.specs.Cell.{Cell, empty, held}
use Rattle.paths.specs.CellRule.{chosen_path}
use Rattle.paths.specs.Anchors.{Anchor, kept, held_in}
use Rattle.limits.specs.Common.{shortest_unit, longest_unit}
use Rattle.paths.specs.Units.{fits_unit, may_hold, admits_unit}
use Rattle.paths.specs.StageProblem.{cost, score_of, unit_value_of, boundary, problem_of}
use Rattle.paths.specs.Passes.{pass_problem, speaks, non_empty, has_nucleus, in_order, passes}
use Rattle.paths.specs.Demand.{Answer, found, none, unvoiced, AdmitsNone, FirstOf, here, after, EachPass, all_done, each_of, Found, Demanded, a_path, no_path, no_nucleus}
use Rattle.paths.specs.Search.{PathRule, or_else, search_by, chosen}
use Rattle.paths.specs.Theory.Alike.{SameLists, SameDurations, row_count, ReadsAlike, RowsBelow}
use Rattle.paths.proofs.AgreeingProblems.{Agreeing, admitted_too, same_sum, best_too, no_path_too, same_chosen}
use Rattle.paths.proofs.Anchors.{InRows, held_rows}
use Rattle.paths.proofs.Chosen.{chosen_admitted, chosen_count}
use Rattle.paths.proofs.Answers.{first_each}

-- ---- reading alike is an equivalence

lists_sym : {stage stage' : Stage} → SameLists stage stage' → SameLists stage' stage
lists_sym same = record { anchors = sym same.anchors; first_row = sym same.first_row; boundaries = sym same.boundaries }

lists_trans : {stage stage' stage'' : Stage} → SameLists stage stage' → SameLists stage' stage'' → SameLists stage stage''
lists_trans same next = record {
  anchors = same.anchors ∙ next.anchors;
  first_row = same.first_row ∙ next.first_row;
  boundaries = same.boundaries ∙ next.boundaries;
}

pub alike_refl : (phrase : Phrase) (columns : List ℕ) → ReadsAlike phrase columns phrase columns
alike_refl phrase columns = record {
  mask = refl;
  nuclei = record { anchors = refl; first_row = refl; boundaries = refl };
  added = record { anchors = refl; first_row = refl; boundaries = refl };
  costs = refl;
  speech = refl;
  durations = λ frames least most. refl;
  added_durations = λ exists frames least most. refl;
  unit_count = refl;
  scores = λ unit row below within. refl;
}

module _ {phrase phrase' : Phrase} {columns columns' : List ℕ} (alike : ReadsAlike phrase columns phrase' columns') where
  same_row_count : row_count phrase ≡ row_count phrase'
  same_row_count = ap₂ (λ anchors more. length anchors + length more) alike.nuclei.anchors alike.added.anchors

  pub alike_sym : ReadsAlike phrase' columns' phrase columns
  alike_sym = record {
    mask = sym alike.mask;
    nuclei = lists_sym alike.nuclei;
    added = lists_sym alike.added;
    costs = sym alike.costs;
    speech = sym alike.speech;
    durations = λ frames least most. sym (alike.durations frames least most);
    added_durations = λ exists frames least most.
        sym (alike.added_durations
        (subst (λ (anchors : List ℕ). T (non_empty anchors)) (sym alike.added.anchors) exists) frames least most);
    unit_count = sym alike.unit_count;
    scores = λ unit row below within. sym (alike.scores unit row (omega (arith, alike.unit_count)) (omega (arith, same_row_count)));
  }

  pub alike_trans : {phrase'' : Phrase} {columns'' : List ℕ} → ReadsAlike phrase' columns' phrase'' columns''
      → ReadsAlike phrase columns phrase'' columns''
  alike_trans next = record {
    mask = alike.mask ∙ next.mask;
    nuclei = lists_trans alike.nuclei next.nuclei;
    added = lists_trans alike.added next.added;
    costs = alike.costs ∙ next.costs;
    speech = alike.speech ∙ next.speech;
    durations = λ frames least most. alike.durations frames least most ∙ next.durations frames least most;
    added_durations = λ exists frames least most.
        alike.added_durations exists frames least most
        ∙ next.added_durations (subst (λ (anchors : List ℕ). T (non_empty anchors)) alike.added.anchors exists) frames least most;
    unit_count = alike.unit_count ∙ next.unit_count;
    scores = λ unit row below within.
        alike.scores unit row below within ∙ next.scores unit row (omega (arith, alike.unit_count)) (omega (arith, same_row_count));
  }

  pub rows_below_too : RowsBelow phrase → RowsBelow phrase'
  rows_below_too below = record {
    nuclei = omega (arith, below.nuclei, same_row_count, alike.nuclei.first_row, ap length alike.nuclei.anchors);
    added = omega (arith, below.added, same_row_count, alike.added.first_row, ap length alike.added.anchors);
  }

-- ---- what is the same whatever the columns

-- a phrase without its scores, durations and candidates: of two that read alike the same
abbrev pub bare_stage : Stage → Stage
bare_stage stage = record { anchors = stage.anchors; first_row = stage.first_row; boundaries = stage.boundaries; duration = λ frames. nan }

abbrev pub bare : Phrase → Phrase
bare phrase = record {
  mask = phrase.mask;
  nuclei = bare_stage phrase.nuclei;
  added = bare_stage phrase.added;
  score = λ row column. nan;
  candidates = [];
  costs = phrase.costs;
  speech = phrase.speech;
}

pub same_bare_stage : {stage stage' : Stage} → SameLists stage stage' → bare_stage stage ≡ bare_stage stage'
same_bare_stage same = cc

pub same_bare : {phrase phrase' : Phrase} {columns columns' : List ℕ} → ReadsAlike phrase columns phrase' columns'
    → bare phrase ≡ bare phrase'
same_bare alike = cc (same_bare_stage alike.nuclei, same_bare_stage alike.added)

-- ---- the problem of a stage

module _ {phrase phrase' : Phrase} {columns columns' : List ℕ} (alike : ReadsAlike phrase columns phrase' columns')
    {stage stage' : Stage} (lists : SameLists stage stage') (durations : SameDurations stage stage')
    (rows : stage.first_row + length stage.anchors ≤ row_count phrase) where
  plain : bare phrase ≡ bare phrase'
  plain = same_bare alike

  plain_stage : bare_stage stage ≡ bare_stage stage'
  plain_stage = same_bare_stage lists

  same_score : (unit : ℕ) → unit < length columns → {anchors : List Anchor} → Each (InRows stage.first_row (row_count phrase)) anchors
      → score_of phrase (get_or columns unit 0) anchors ≡ score_of phrase' (get_or columns' unit 0) anchors
  unfolding score_of
  same_score unit few each_none = ap (λ (p : Phrase). p.costs.«unvoiced») plain
  same_score unit few (each_more {x = anchor} (low, high) more) = alike.scores unit anchor.row few high

  same_unit : (strictness : Strictness) (unit i j : ℕ) → unit < length columns
      → T (admits_unit strictness (kept phrase stage) (boundary stage i) (boundary stage j))
      → unit_value_of phrase stage (get_or columns unit 0) (boundary stage i) (boundary stage j)
      ≡ unit_value_of phrase' stage' (get_or columns' unit 0) (boundary stage' i) (boundary stage' j)
  unfolding unit_value_of admits_unit
  same_unit strictness unit i j few ok =
      let from = boundary stage i in
      let to = boundary stage j in
      let fits = and_l (fits_unit (to - from)) (may_hold strictness (length (held_in (kept phrase stage) from to))) ok in
      ap₂ (add binary64)
      (same_score unit few (held_rows phrase.mask stage.first_row (row_count phrase) stage.anchors from to rows)
      ∙ ap₂ (λ (p : Phrase) (s : Stage). score_of phrase' (get_or columns' unit 0) (held_in (kept p s) (boundary s i) (boundary s j))) plain
      plain_stage)
      (durations (to - from) (leb→le shortest_unit (to - from) (and_l (leb shortest_unit (to - from)) (leb (to - from) longest_unit) fits))
      (leb→le (to - from) longest_unit (and_r (leb shortest_unit (to - from)) (leb (to - from) longest_unit) fits))
      ∙ ap (λ (s : Stage). stage'.duration (boundary s j - boundary s i)) plain_stage)

  pub problems_agree : (strictness : Strictness)
      → Agreeing (length columns) (problem_of phrase stage strictness columns) (problem_of phrase' stage' strictness columns')
  unfolding cost admits_unit
  problems_agree strictness = record {
    size = ap length lists.boundaries;
    starts = λ i h. ap₂ (λ (p : Phrase) (s : Stage). neg (cost p 0 (boundary s i))) plain plain_stage;
    gaps = λ i h. ap₂ (λ (p : Phrase) (s : Stage). cost p (boundary s i) (boundary s (suc i))) plain plain_stage;
    stops = λ i h. ap₂ (λ (p : Phrase) (s : Stage). cost p (boundary s i) (length p.mask)) plain plain_stage;
    allowed = λ i j h l. ap₂ (λ (p : Phrase) (s : Stage). admits_unit strictness (kept p s) (boundary s i) (boundary s j)) plain plain_stage;
    units = λ unit i j few h l ok. same_unit strictness unit i j few ok;
  }

-- ---- the search through the passes

-- A rule that goes by admitted paths and their sums: it picks the same path of two problems that agree, and an admitted one of the count.
pub record GoesByPaths (rule : PathRule) : Type 0 where
  pub same : {k : ℕ} {q q' : Problem} → Agreeing k q q' → rule q k ≡ rule q' k
  pub admitted : (q : Problem) (k : ℕ) (p : Path) → rule q k ≡ held p → Admitted q p
  pub counted : (q : Problem) (k : ℕ) (p : Path) → rule q k ≡ held p → count p ≡ k

pub cell_rule_goes : GoesByPaths chosen_path
cell_rule_goes = record { same = λ {k} agree. same_chosen agree k (omega arith); admitted = chosen_admitted; counted = chosen_count }

module _ {phrase phrase' : Phrase} {columns columns' : List ℕ} (below : RowsBelow phrase)
    (alike : ReadsAlike phrase columns phrase' columns') where
  abbrev pub PassAgrees : Pass → Type 0
  PassAgrees pass = Agreeing (length columns) (pass_problem phrase pass columns) (pass_problem phrase' pass columns')

  -- the problems of each pass that there is
  pub passes_agree : EachPass PassAgrees (in_order phrase)
  passes_agree =
      each_of (nuclei Strict)
      (by_choice (EachPass PassAgrees) (non_empty phrase.added.anchors)
      (λ exists. each_of (added exists Strict) (each_of (added exists Relaxed) all_done)) (λ none. each_of (nuclei Relaxed) all_done))
    where
      nuclei : (strictness : Strictness)
          → Agreeing (length columns) (problem_of phrase phrase.nuclei strictness columns)
          (problem_of phrase' phrase'.nuclei strictness columns')
      nuclei = problems_agree alike alike.nuclei alike.durations below.nuclei

      added : T (non_empty phrase.added.anchors) → (strictness : Strictness)
          → Agreeing (length columns) (problem_of phrase phrase.added strictness columns)
          (problem_of phrase' phrase'.added strictness columns')
      added exists = problems_agree alike alike.added (alike.added_durations exists) below.added

  pub same_nucleus : has_nucleus phrase ≡ has_nucleus phrase'
  unfolding has_nucleus
  same_nucleus = ap has_nucleus (same_bare alike)

  pub same_passes : passes phrase ≡ passes phrase'
  unfolding passes has_nucleus
  same_passes = ap passes (same_bare alike)

  module _ {rule : PathRule} (goes : GoesByPaths rule) where
    search_through : {order : List Pass} → EachPass PassAgrees order
        → search_by rule phrase columns order ≡ search_by rule phrase' columns' order
    unfolding search_by
    search_through all_done = ap (λ (b : Bool). cond b none unvoiced) same_nucleus
    search_through (each_of {pass = pass} {later = later} agree others) =
        go (rule q (length columns)) refl
        ∙ ap₂ (or_else pass q') (goes.same agree ∙ ap (rule q') alike.unit_count) (search_through others)
      where
        q : Problem
        q = pass_problem phrase pass columns

        q' : Problem
        q' = pass_problem phrase' pass columns'

        go : (cell : Cell Path) → rule q (length columns) ≡ cell
            → or_else pass q cell (search_by rule phrase columns later) ≡ or_else pass q' cell (search_by rule phrase columns later)
        go empty e = refl
        go (held p) e =
            ap (found pass p) (same_sum agree (goes.admitted q (length columns) p e) (le_of_eq (goes.counted q (length columns) p e)))

    pub same_search : search_by rule phrase columns (passes phrase) ≡ search_by rule phrase' columns' (passes phrase')
    unfolding passes
    same_search =
        search_through (by_choice (EachPass PassAgrees) (speaks phrase.speech && has_nucleus phrase) (λ t. passes_agree) (λ no. all_done))
        ∙ ap (search_by rule phrase' columns') same_passes

  pub same_answer : chosen phrase columns ≡ chosen phrase' columns'
  unfolding chosen
  same_answer = same_search cell_rule_goes

  -- ---- demand 3

  pub same_order : in_order phrase ≡ in_order phrase'
  same_order = ap in_order (same_bare alike)

  none_too : (pass : Pass) → PassAgrees pass → AdmitsNone phrase columns pass → AdmitsNone phrase' columns' pass
  none_too pass agree missing = subst (NoPath (pass_problem phrase' pass columns')) alike.unit_count (no_path_too agree missing)

  first_too : {pass : Pass} {order : List Pass} → EachPass PassAgrees order → FirstOf phrase columns pass order
      → FirstOf phrase' columns' pass order
  first_too {pass = pass} all_done x3 = elim x3 [ ]
  first_too (each_of agree others) (here (p, a, counted)) = here (p, admitted_too agree a, counted ∙ alike.unit_count)
  first_too (each_of {pass = earlier} agree others) (after missing first) = after (none_too earlier agree missing) (first_too others first)

  each_none_too : {order : List Pass} → EachPass PassAgrees order → EachPass (AdmitsNone phrase columns) order
      → EachPass (AdmitsNone phrase' columns') order
  each_none_too all_done all_done = all_done
  each_none_too (each_of {pass = pass} agree others) (each_of missing more) =
      each_of (none_too pass agree missing) (each_none_too others more)

  found_too : {pass : Pass} {path : Path} {total : Float} → Found phrase columns pass path total → Found phrase' columns' pass path total
  found_too {pass} {path} f =
      let agree = first_each passes_agree f.first in
      record {
        speech = subst (λ (s : Speech). T (speaks s)) alike.speech f.speech;
        nucleus = subst T same_nucleus f.nucleus;
        first = subst (FirstOf phrase' columns' pass) same_order (first_too passes_agree f.first);
        best = subst (λ (k : ℕ). Best (pass_problem phrase' pass columns') k path) alike.unit_count (best_too agree f.best);
        summed = f.summed ∙ same_sum agree f.best.admitted (le_of_eq f.best.counted);
      }

  -- what is demanded for the one is demanded for the other, by admitted paths and their sums alone
  pub demanded_too : {answer : Answer} → Demanded phrase columns answer → Demanded phrase' columns' answer
  demanded_too (a_path f) = a_path (found_too f)
  demanded_too (no_path nucleus missing) =
      no_path (subst T same_nucleus nucleus)
      (λ speech.
      subst (EachPass (AdmitsNone phrase' columns')) same_order
      (each_none_too passes_agree (missing (subst (λ (s : Speech). T (speaks s)) (sym alike.speech) speech))))
  demanded_too (no_nucleus lacking) = no_nucleus (subst (λ (b : Bool). T (not b)) same_nucleus lacking)
