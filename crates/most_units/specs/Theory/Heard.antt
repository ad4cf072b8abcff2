-- The most units beside what decoding says of a candidate.
use Rattle.std.specs.Prelude.{ℕ, ◌<◌, Option, Some, None, Result, Ok}
use Rattle.limits.specs.declared.refusal.Refusal.{Refusal}
use Rattle.phrase.specs.Phrase.{Phrase}
use Rattle.paths.specs.declared.passes.Pass.{Pass}
use Rattle.paths.specs.Passes.{of_pass, pass_stage, pass_strictness}
use Rattle.record.specs.declared.read.Which.{Which}
use Rattle.record.specs.declared.read.Which.TheVariants.{Nuclei, Count}
use Rattle.most_units.specs.Most.{paths_of, Most}

-- the most units, under a cap, of the stage and strictness of a pass
abbrev pub MostIn : Phrase → Pass → ℕ → ℕ → Type 0
MostIn phrase pass = Most (paths_of phrase (pass_stage phrase pass) (pass_strictness pass))

-- a pass's stage, by the word of the code
abbrev pub which_of : Pass → Which
which_of pass = of_pass Nuclei Count pass

-- the answer leaves no room for k units
pub data Short (k : ℕ) : Result (Option ℕ) Refusal → Type 0 where
  nothing_fits : Short k (Ok None)
  too_few : {units : ℕ} → units < k → Short k (Ok (Some units))
