-- The passes in their order, and what each searches (document 01, "How a path is scored").
use Rattle.std.specs.Prelude.{ℕ, Bool, true, false, cond, ◌&&◌, List, [], ◌∷◌}
use Rattle.phrase.specs.Phrase.{Phrase, Stage, Speech, silent, spoken}
use Rattle.paths.specs.declared.passes.Strictness.{Strictness}
use Rattle.paths.specs.declared.passes.Strictness.TheVariants.{Strict, Relaxed}
use Rattle.paths.specs.declared.passes.Pass.{Pass}
use Rattle.paths.specs.declared.passes.Pass.TheVariants.{NucleiStrict, CountStrict, CountRelaxed, NucleiRelaxed}
use Rattle.paths.specs.Problem.{Problem}
use Rattle.paths.specs.Anchors.{kept}
use Rattle.paths.specs.StageProblem.{problem_of}

-- "Pass: 0 nuclei-strict, 1 count-strict, 2 count-relaxed, 3 nuclei-relaxed"
abbrev pub pass_number : Pass → ℕ
pass_number NucleiStrict = 0
pass_number CountStrict = 1
pass_number CountRelaxed = 2
pass_number NucleiRelaxed = 3

-- "0 nuclei-strict, 1 count-strict, 2 count-relaxed, 3 nuclei-relaxed": the first word names the stage. Of what belongs to the nuclei's
-- stage and what belongs to the added one, that of the stage which a pass searches.
abbrev pub of_pass {ℓ} : {A : Type ℓ} → A → A → Pass → A
of_pass nuclei added NucleiStrict = nuclei
of_pass nuclei added CountStrict = added
of_pass nuclei added CountRelaxed = added
of_pass nuclei added NucleiRelaxed = nuclei

-- "its stage"
abbrev pub pass_stage : Phrase → Pass → Stage
pass_stage phrase pass = of_pass phrase.nuclei phrase.added pass

-- "every unit is as the pass's strictness asks": the second word
abbrev pub pass_strictness : Pass → Strictness
pass_strictness NucleiStrict = Strict
pass_strictness CountStrict = Strict
pass_strictness CountRelaxed = Relaxed
pass_strictness NucleiRelaxed = Relaxed

-- "A pass admits exactly these paths: over the boundaries and kept anchors of its stage": the problem of a pass, for a candidate's
-- columns
abbrev pub pass_problem : Phrase → Pass → List ℕ → Problem
pass_problem phrase pass columns = problem_of phrase (pass_stage phrase pass) (pass_strictness pass) columns

-- whether the speech edges say speech
abbrev pub speaks : Speech → Bool
speaks silent = false
speaks (spoken start end) = true

abbrev pub non_empty {ℓ} : {A : Type ℓ} → List A → Bool
non_empty [] = false
non_empty (x ∷ xs) = true

-- demand 3: "a nucleus in its mask"
unfoldable pub has_nucleus : Phrase → Bool
has_nucleus phrase = non_empty (kept phrase phrase.nuclei)

-- "Nuclei strict; then count strict and count relaxed if there is an added stage, else nuclei relaxed." The added stage
-- "exists exactly when A > 0".
abbrev pub in_order : Phrase → List Pass
in_order phrase = NucleiStrict ∷ cond (non_empty phrase.added.anchors) (CountStrict ∷ CountRelaxed ∷ []) (NucleiRelaxed ∷ [])

-- "Passes: none where the speech edges say no speech, whatever the mask's bytes, or no nucleus is within the mask."
unfoldable pub passes : Phrase → List Pass
passes phrase = cond (speaks phrase.speech && has_nucleus phrase) (in_order phrase) []
