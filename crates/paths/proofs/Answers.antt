-- The answer of the search meets demand 3, for every phrase whose figures keep to bounds that leave room. Assumes nothing.
use mathlib.Core.Path.{◌≡◌, refl}
use mathlib.Core.List.{List}
use Prim.Native.Nat.{ℕ}
use native.Mathlib.Nat.{le_of_eq}
use lib.ListN.{length}
use lib.Ieee.{Float, binary64}
use Rattle.ieee.specs.Inner.Value.{Real}
use Rattle.laws.proofs.Tests.{by_choice}
use Rattle.phrase.specs.Phrase.{Phrase}
use Rattle.paths.specs.declared.passes.Strictness.TheVariants.{Strict, Relaxed}
use Rattle.paths.specs.declared.passes.Pass.{Pass}
use Rattle.paths.specs.Problem.{Problem}
use Rattle.paths.specs.Path.{Path, sum}
use Rattle.paths.specs.Cell.{Cell, empty, held}
use Rattle.paths.specs.CellRule.{chosen_path}
use Rattle.paths.specs.Passes.{pass_problem, non_empty, in_order}
use Rattle.paths.specs.Demand.{Answer, FirstOf, here, after, EachPass, all_done, each_of, Found, Demanded}
use Rattle.paths.specs.Search.{chosen}
use Rattle.paths.specs.Theory.Finite.{Finite}
use Rattle.paths.specs.Theory.Bounded.{Figures, Ranges, filler_bound, step_bound, Room, PhraseBounded}
use Rattle.paths.proofs.Demanded.{Picked, picked, nothing, search_demanded, Alike, one_answer}
use Rattle.paths.proofs.Finite.{finite}
use Rattle.paths.proofs.Chosen.{none_chosen}
use Rattle.paths.proofs.Optimal.{chosen_best}
use Rattle.paths.proofs.PhraseFigures.{phrase_figures}

each_pass_follows : {P Q : Pass → Type 0} {order : List Pass} → ((pass : Pass) → P pass → Q pass) → EachPass P order → EachPass Q order
each_pass_follows f all_done = all_done
each_pass_follows f (each_of {pass = pass} p others) = each_of (f pass p) (each_pass_follows f others)

-- what holds of each pass holds of the first that admits a path
pub first_each : {P : Pass → Type 0} {phrase : Phrase} {columns : List ℕ} {pass : Pass} {order : List Pass} → EachPass P order
    → FirstOf phrase columns pass order → P pass
first_each {P = P} {phrase = phrase} {columns = columns} {pass = pass} all_done x3 = elim x3 [ ]
first_each (each_of p others) (here a) = p
first_each (each_of p others) (after missing first) = first_each others first

-- the cell rule picks a best path, or nothing where no path is admitted
rule_picks : (q : Problem) (k : ℕ) → Finite q k → Picked q k (chosen_path q k)
rule_picks q k finite = go (chosen_path q k) refl
  where
    go : (cell : Cell Path) → chosen_path q k ≡ cell → Picked q k cell
    go empty e = nothing (none_chosen q k e)
    go (held path) e = picked (chosen_best q k finite path e)

module _ {most : Ranges} {phrase : Phrase} {columns : List ℕ} (room : Room most) (bounded : PhraseBounded most phrase columns) where
  abbrev PassFigures : Pass → Type 0
  PassFigures pass = Figures (pass_problem phrase pass columns) (filler_bound most) (step_bound most)

  figures : EachPass PassFigures (in_order phrase)
  figures =
      each_of (phrase_figures room bounded.nuclei Strict)
      (by_choice (EachPass PassFigures) (non_empty phrase.added.anchors)
      (λ exists. each_of (phrase_figures room (bounded.added exists) Strict)
      (each_of (phrase_figures room (bounded.added exists) Relaxed) all_done))
      (λ none. each_of (phrase_figures room bounded.nuclei Relaxed) all_done))

  -- the sum of a path that is found is finite
  pub found_real : {pass : Pass} {path : Path} {total : Float} → Found phrase columns pass path total
      → Real binary64 (sum (pass_problem phrase pass columns) path)
  found_real {path = path} f =
      (finite (first_each figures f.first) (length columns)).sums path f.best.admitted (le_of_eq f.best.counted)

  -- the answer by the cell rule is as demanded
  pub chosen_demanded : Demanded phrase columns (chosen phrase columns)
  unfolding chosen
  chosen_demanded =
      search_demanded chosen_path phrase columns
      (each_pass_follows (λ pass f. rule_picks (pass_problem phrase pass columns) (length columns) (finite f (length columns))) figures)

  -- and every answer that is as demanded is that one, up to which best path stands and the sign of a zero
  pub only_answer : {answer : Answer} → Demanded phrase columns answer → Alike answer (chosen phrase columns)
  only_answer d = one_answer phrase columns (λ pass first. finite (first_each figures first) (length columns)) d chosen_demanded
