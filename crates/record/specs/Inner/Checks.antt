-- What a check of a record answers.
use Rattle.std.specs.Prelude.{ℕ, List, Result, Ok, Err}
use Rattle.std.proofs.Math.Option.{Option, none, some}
use Rattle.record.specs.Layout.{layout_of}
use Rattle.record.specs.declared.layout.Layout.{Layout}
use Rattle.limits.specs.declared.refusal.Refusal.{Refusal}
use Rattle.record.specs.Refusals.{refusal_of, refusal_with}

-- What a check answers: the refusal, or what is handed on of an accepted record, as its layout.
abbrev pub answer : {A : Type 0} → Option Refusal → A → Result A Refusal
answer none a = Ok a
answer (some q) a = Err q

abbrev pub checked_of : List ℕ → Result Layout Refusal
checked_of bytes = answer (refusal_of bytes) (layout_of bytes)

abbrev pub checked_with : List ℕ → ℕ → ℕ → ℕ → Result Layout Refusal
checked_with bytes best back out = answer (refusal_with bytes best back out) (layout_of bytes)
