-- How an entry answers: its values, or the number of a refusal (document 01, "What the decoder says no with").
use Rattle.std.specs.Prelude.{ℕ, Bool, List, ltb, Result, Ok, Err}
use Rattle.std.specs.List.{list_any}
use Rattle.std.proofs.Math.Option.{Option, none, some}
use Rattle.limits.specs.Refusals.{number_of}
use Rattle.limits.specs.declared.refusal.Refusal.{Refusal}
use Rattle.laws.specs.Rules.{Rule, first_of}

pub data Outcome (A : Type 0) : Type 0 where
  accepted : A → Outcome A
  refused : ℕ → Outcome A

-- what the code answers says that much
abbrev pub outcome : {A : Type 0} → Result A Refusal → Outcome A
outcome (Ok a) = accepted a
outcome (Err refusal) = refused (number_of refusal)

-- an entry's values, unless its rules give the number of a refusal
abbrev pub unless : {A : Type 0} → Option ℕ → A → Outcome A
unless none a = accepted a
unless (some number) a = refused number

-- the values, unless a rule refuses. For "the lowest applicable number is given" the rules of an entry stand by ascending number.
abbrev pub checked : {A : Type 0} → List (Rule ℕ) → A → Outcome A
checked rules a = unless (first_of rules) a

-- a number of a list lies above the limit: "no byte above 1", "none above 4,095"
abbrev pub any_above : ℕ → List ℕ → Bool
any_above limit xs = list_any (ltb limit) xs

-- the most frames of a list and bytes of a mask that an entry takes
abbrev pub most_frames : ℕ
most_frames = 64

abbrev pub most_bytes : ℕ
most_bytes = 2048
