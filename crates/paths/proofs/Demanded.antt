-- Demand 3 leaves one answer, up to which of several best paths stands and to the sign of a zero, and a search that picks a best
-- path wherever a pass admits one meets it. Assumes nothing.
use mathlib.Core.Path.{◌≡◌, refl, sym, subst, subst₂}
use mathlib.Core.Logic.{◌↔◌}
use mathlib.Core.Bool.{cond, ◌&&◌}
use mathlib.Core.List.{List, ◌∷◌}
use Prim.Native.Nat.{ℕ}
use lib.Dec.{T, T_not}
use lib.ListN.{length}
use lib.Ieee.{Float, eq}
use lib.Ieee.Fits.{and_i, and_l, and_r}
use Rattle.laws.proofs.Tests.{by_choice}
use Rattle.phrase.specs.Phrase.{Phrase}
use Rattle.paths.specs.declared.passes.Pass.{Pass}
use Rattle.paths.specs.Problem.{Problem}
use Rattle.paths.specs.Path.{Path, sum, Best, NoPath}
use Rattle.paths.specs.Cell.{Cell, empty, held}
use Rattle.paths.specs.Passes.{pass_problem, speaks, has_nucleus, in_order, passes}
use Rattle.paths.specs.Demand.{Answer, found, none, unvoiced, Admits, AdmitsNone, FirstOf, here, after, EachPass, all_done, each_of, Found, Demanded, a_path, no_path, no_nucleus}
use Rattle.paths.specs.Search.{PathRule, or_else, search_by}
use Rattle.paths.specs.Theory.Finite.{Finite}
use Rattle.paths.proofs.Optimal.{best_sums_equal}

-- ---- the demand leaves one answer

-- the same pass and, as numbers, the same sum; or the same word
pub data Alike : Answer → Answer → Type 0 where
  paths_alike : {pass : Pass} {path other : Path} {total other_total : Float} → T (eq total other_total)
      → Alike (found pass path total) (found pass other other_total)
  none_alike : Alike none none
  unvoiced_alike : Alike unvoiced unvoiced

-- the answer is a path
pub data HasPath : Answer → Type 0 where
  has_path : {pass : Pass} {path : Path} {total : Float} → HasPath (found pass path total)

module _ (phrase : Phrase) (columns : List ℕ) where
  conflict : (pass : Pass) → AdmitsNone phrase columns pass → Admits phrase columns pass → ⊥
  unfolding NoPath
  conflict pass missing path = missing path.0 path.1 path.2

  first_same : {pass : Pass} {order : List Pass} {other : Pass} → FirstOf phrase columns pass order → FirstOf phrase columns other order
      → pass ≡ other
  first_same (here a) (here b) = refl
  first_same {pass = pass} (here a) (after missing first) = absurd (conflict pass missing a)
  first_same {other = other} (after missing first) (here a) = absurd (conflict other missing a)
  first_same (after missing first) (after missed later) = first_same first later

  none_first : {order : List Pass} {pass : Pass} → EachPass (AdmitsNone phrase columns) order → FirstOf phrase columns pass order → ⊥
  none_first {pass = pass} all_done x3 = elim x3 [ ]
  none_first {pass = pass} (each_of missing others) (here a) = conflict pass missing a
  none_first (each_of missing others) (after missed first) = none_first others first

  -- "The answer is 'no path' exactly when speech or a nucleus is lacking, or no pass admits a path of that count", the other way round
  pub path_exactly : {answer : Answer} → Demanded phrase columns answer
      → HasPath answer ↔
      (T (speaks phrase.speech) × T (has_nucleus phrase) × ((pass : Pass) × FirstOf phrase columns pass (in_order phrase)))
  path_exactly (a_path {pass = pass} f) = (λ has. (f.speech, f.nucleus, (pass, f.first)), λ all. has_path)
  path_exactly (no_path nucleus missing) = (λ has. elim has [ ], λ all. absurd (none_first (missing all.0) all.2.1))
  path_exactly (no_nucleus lacking) = (λ has. elim has [ ], λ all. absurd (T_not (has_nucleus phrase) lacking all.1))

  -- the paths of the pass named have finite sums
  module _ (finite : (pass : Pass) → FirstOf phrase columns pass (in_order phrase)
      → Finite (pass_problem phrase pass columns) (length columns)) where
    same_sum : {pass : Pass} {path other : Path} {total other_total : Float} → Found phrase columns pass path total
        → Found phrase columns pass other other_total
        → T (eq total other_total)
    same_sum {pass} f g =
        subst₂ (λ (x y : Float). T (eq x y)) (sym f.summed) (sym g.summed)
        (best_sums_equal (pass_problem phrase pass columns) (length columns) (finite pass f.first) f.best g.best)

    pub one_answer : {answer other : Answer} → Demanded phrase columns answer → Demanded phrase columns other → Alike answer other
    one_answer (a_path {pass = pass} {path = path} {total = total} f) (a_path {path = other} {total = other_total} g) =
        let same = first_same f.first g.first in
        subst (λ (p : Pass). Alike (found pass path total) (found p other other_total)) same
        (paths_alike (same_sum f (subst (λ (p : Pass). Found phrase columns p other other_total) (sym same) g)))
    one_answer (a_path f) (no_path nucleus missing) = absurd (none_first (missing f.speech) f.first)
    one_answer (a_path f) (no_nucleus lacking) = absurd (T_not (has_nucleus phrase) lacking f.nucleus)
    one_answer (no_path nucleus missing) (a_path f) = absurd (none_first (missing f.speech) f.first)
    one_answer (no_path nucleus missing) (no_path present others) = none_alike
    one_answer (no_path nucleus missing) (no_nucleus lacking) = absurd (T_not (has_nucleus phrase) lacking nucleus)
    one_answer (no_nucleus lacking) (a_path f) = absurd (T_not (has_nucleus phrase) lacking f.nucleus)
    one_answer (no_nucleus lacking) (no_path nucleus missing) = absurd (T_not (has_nucleus phrase) lacking nucleus)
    one_answer (no_nucleus lacking) (no_nucleus absent) = unvoiced_alike

-- ---- a search meets the demand

-- what a rule picks for a problem: a best path, or nothing where none is admitted
pub data Picked (q : Problem) (k : ℕ) : Cell Path → Type 0 where
  picked : {path : Path} → Best q k path → Picked q k (held path)
  nothing : NoPath q k → Picked q k empty

module _ (rule : PathRule) (phrase : Phrase) (columns : List ℕ) where
  abbrev problem : Pass → Problem
  problem pass = pass_problem phrase pass columns

  -- the rule does so in a pass
  abbrev pub Sound : Pass → Type 0
  Sound pass = Picked (problem pass) (length columns) (rule (problem pass) (length columns))

  -- what the search through a list of passes finds
  data Walked (order : List Pass) : Answer → Type 0 where
    first_found : {pass : Pass} {path : Path} → FirstOf phrase columns pass order → Best (problem pass) (length columns) path
        → Walked order (found pass path (sum (problem pass) path))
    none_found : EachPass (AdmitsNone phrase columns) order → Walked order (cond (has_nucleus phrase) none unvoiced)

  walked : {order : List Pass} → EachPass Sound order → Walked order (search_by rule phrase columns order)
  unfolding search_by
  walked all_done = none_found all_done
  walked (each_of {pass = pass} {later = later} pick sound) = go pick (walked sound)
    where
      further : AdmitsNone phrase columns pass → {rest : Answer} → Walked later rest → Walked (pass ∷ later) rest
      further missing (first_found first best) = first_found (after missing first) best
      further missing (none_found others) = none_found (each_of missing others)

      go : {cell : Cell Path} → Picked (problem pass) (length columns) cell → {rest : Answer} → Walked later rest
          → Walked (pass ∷ later) (or_else pass (problem pass) cell rest)
      go (picked {path = path} best) rest = first_found (here (path, best.admitted, best.counted)) best
      go (nothing missing) rest = further missing rest

  -- with no path, the word
  word : (T (has_nucleus phrase) → T (speaks phrase.speech) → EachPass (AdmitsNone phrase columns) (in_order phrase))
      → Demanded phrase columns (cond (has_nucleus phrase) none unvoiced)
  word missing =
      by_choice (Demanded phrase columns) (has_nucleus phrase) (λ nucleus. no_path nucleus (missing nucleus)) (λ none. no_nucleus none)

  pub search_demanded : EachPass Sound (in_order phrase) → Demanded phrase columns (search_by rule phrase columns (passes phrase))
  unfolding passes search_by
  search_demanded sound =
      by_choice (λ (order : List Pass). Demanded phrase columns (search_by rule phrase columns order))
      (speaks phrase.speech && has_nucleus phrase)
      (λ t. all_searched t (walked sound))
      (λ no. word (λ nucleus speech. absurd
      (T_not (speaks phrase.speech && has_nucleus phrase) no (and_i (speaks phrase.speech) (has_nucleus phrase) speech nucleus))))
    where
      all_searched : T (speaks phrase.speech && has_nucleus phrase) → {answer : Answer} → Walked (in_order phrase) answer
          → Demanded phrase columns answer
      all_searched t (first_found first best) = a_path (record {
        speech = and_l (speaks phrase.speech) (has_nucleus phrase) t;
        nucleus = and_r (speaks phrase.speech) (has_nucleus phrase) t;
        first = first;
        best = best;
        summed = refl;
      })
      all_searched t (none_found missing) = word (λ nucleus speech. missing)
