-- The passes in document 01's order: what a pass that finds a path, or finds none, says of the whole answer. Assumes nothing.
use mathlib.Core.Bool.{Bool, true, false, and-false}
use mathlib.Core.List.{List}
use Rattle.std.specs.Prelude.{Result, Ok, Err}
use mathlib.Core.Path.{◌≡◌, refl, subst⁻¹, ◌∙◌}
use Prim.Native.Nat.{ℕ}
use lib.ListN.{length}
use Rattle.phrase.specs.Phrase.{Phrase}
use Rattle.paths.specs.declared.passes.Pass.{Pass}
use Rattle.paths.specs.declared.passes.Pass.TheVariants.{NucleiStrict, CountStrict, CountRelaxed, NucleiRelaxed}
use Rattle.paths.specs.Problem.{Problem}
use Rattle.paths.specs.Path.{Path}
use Rattle.paths.specs.Cell.{Cell}
use Rattle.paths.specs.CellRule.{chosen_path}
use Rattle.paths.specs.Passes.{pass_problem, passes, speaks, has_nucleus, non_empty}
use Rattle.paths.specs.Demand.{Answer as Demanded}
use Rattle.paths.specs.Search.{search_by, chosen}
use Rattle.closed.specs.declared.search.Found.{Found}
use Rattle.closed.specs.declared.search.Missed.{Missed}
use Rattle.closed.specs.declared.search.Missed.TheVariants.{NoPath, Unvoiced}
use Rattle.closed.specs.Answered.{Says, pass_then, pass_answer, added_answer}
use Rattle.closed.proofs.Answers.{says_first, leaves_later}

module _ (phrase : Phrase) (columns : List ℕ) where
  abbrev problem : Pass → Problem
  problem pass = pass_problem phrase pass columns

  abbrev path : Pass → Cell Path
  path pass = chosen_path (problem pass) (length columns)

  abbrev then : Pass → Demanded → Demanded
  then = pass_then phrase columns

  pub says_unvoiced : has_nucleus phrase ≡ false → Says (chosen phrase columns) (Err Unvoiced)
  unfolding chosen search_by passes
  says_unvoiced e = rw (e, and-false, e) refl

  -- the passes over the added stage: the first finds a path, or leaves it to the second
  pub says_count : (here : Found) → Says (pass_answer phrase CountStrict columns) (Ok here) → Says (added_answer phrase columns) (Ok here)
  says_count = says_first CountStrict (problem CountStrict) (path CountStrict) (pass_answer phrase CountRelaxed columns)

  pub says_last :
      (missed : Missed) → Says (pass_answer phrase CountStrict columns) (Err missed) →
      (r : Result Found Missed) → Says (pass_answer phrase CountRelaxed columns) r → Says (added_answer phrase columns) r
  says_last missed said r says =
      subst⁻¹ (λ (d : Demanded). Says d r)
      (leaves_later CountStrict (problem CountStrict) (path CountStrict) (pass_answer phrase CountRelaxed columns) missed said) says

  module _ (voiced : has_nucleus phrase ≡ true) where
    pub says_silent : speaks phrase.speech ≡ false → Says (chosen phrase columns) (Err NoPath)
    unfolding chosen search_by passes
    says_silent e = rw (e, voiced) refl

    module _ (spoken : speaks phrase.speech ≡ true) where
      two_passes : non_empty phrase.added.anchors ≡ false
          → chosen phrase columns ≡ then NucleiStrict (pass_answer phrase NucleiRelaxed columns)
      unfolding chosen search_by passes
      two_passes e = rw (spoken, voiced, e, voiced)

      three_passes : non_empty phrase.added.anchors ≡ true → chosen phrase columns ≡ then NucleiStrict (added_answer phrase columns)
      unfolding chosen search_by passes
      three_passes e = rw (spoken, voiced, e, voiced)

      -- the first pass finds a path
      pub says_strict : (here : Found) → Says (pass_answer phrase NucleiStrict columns) (Ok here) → Says (chosen phrase columns) (Ok here)
      says_strict here says = go (non_empty phrase.added.anchors) refl
        where
          go : (b : Bool) → non_empty phrase.added.anchors ≡ b → Says (chosen phrase columns) (Ok here)
          go true e =
              rw (three_passes e)
              (says_first NucleiStrict (problem NucleiStrict) (path NucleiStrict) (added_answer phrase columns) here says)
          go false e =
              rw (two_passes e)
              (says_first NucleiStrict (problem NucleiStrict) (path NucleiStrict) (pass_answer phrase NucleiRelaxed columns) here says)

      -- it finds none
      module _ (missed : Missed) (said : Says (pass_answer phrase NucleiStrict columns) (Err missed)) where
        left_to : (later : Demanded) → chosen phrase columns ≡ then NucleiStrict later → (r : Result Found Missed) → Says later r
            → Says (chosen phrase columns) r
        left_to later is r says =
            subst⁻¹ (λ (d : Demanded). Says d r)
            (is ∙ leaves_later NucleiStrict (problem NucleiStrict) (path NucleiStrict) later missed said) says

        pub says_relaxed : non_empty phrase.added.anchors ≡ false → (r : Result Found Missed)
            → Says (pass_answer phrase NucleiRelaxed columns) r
            → Says (chosen phrase columns) r
        says_relaxed e = left_to (pass_answer phrase NucleiRelaxed columns) (two_passes e)

        pub says_added : non_empty phrase.added.anchors ≡ true → (r : Result Found Missed) → Says (added_answer phrase columns) r
            → Says (chosen phrase columns) r
        says_added e = left_to (added_answer phrase columns) (three_passes e)
