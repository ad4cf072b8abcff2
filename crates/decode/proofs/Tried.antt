-- A pass that finds a path is one of those tried: the added stage's only where there is one.
use Prim.Native.Nat.{ℕ}
use mathlib.Core.Bool.{Bool, true, false, cond}
use mathlib.Core.List.{List, [], ◌∷◌}
use mathlib.Core.Path.{◌≡◌, refl}
use lib.Dec.{T}
use Rattle.phrase.specs.Phrase.{Phrase}
use Rattle.paths.specs.declared.passes.Pass.{Pass}
use Rattle.paths.specs.declared.passes.Pass.TheVariants.{NucleiStrict, CountStrict, CountRelaxed, NucleiRelaxed}
use Rattle.paths.specs.Passes.{of_pass, non_empty, in_order}
use Rattle.paths.specs.Demand.{FirstOf, EachPass, all_done, each_of}
use Rattle.paths.proofs.Answers.{first_each}

-- its stage is the added one
abbrev pub of_added : Pass → Bool
of_added pass = of_pass false true pass

each_tried : (exists : Bool)
    → EachPass (λ pass. T (of_added pass) → exists ≡ true)
    (NucleiStrict ∷ cond exists (CountStrict ∷ CountRelaxed ∷ []) (NucleiRelaxed ∷ []))
each_tried true = each_of (λ t. refl) (each_of (λ t. refl) (each_of (λ t. refl) all_done))
each_tried false = each_of (λ t. absurd t) (each_of (λ t. absurd t) all_done)

pub added_exists : {phrase : Phrase} {columns : List ℕ} {pass : Pass} → FirstOf phrase columns pass (in_order phrase) → T (of_added pass)
    → non_empty phrase.added.anchors ≡ true
added_exists {phrase} = first_each (each_tried (non_empty phrase.added.anchors))
