-- What is left to show of a decoder: on a refused call that it changes nothing, and on an accepted one four equations.
use Prim.Native.Nat.{ℕ, ◌*◌}
use mathlib.Core.List.{List, ◌++◌}
use mathlib.Core.Option.{Option, none, some, none-ne-some, some-ne-none}
use mathlib.Core.Path.{◌≡◌, refl, sym, ap, ◌∙◌}
use lib.ListN.{length, replicate, drop}
use lib.Ieee.{Float, binary64, of_bits}
use Rattle.std.specs.Prelude.{Ok, Err}
use Rattle.frames.specs.Outcome.{accepted}
use Rattle.limits.specs.Sizes.{entry_words, work_cells}
use Rattle.record.specs.Layout.{limits_of}
use Rattle.record.specs.Refusals.{refusal_with}
use Rattle.record.specs.Meaning.{phrase_of}
use Rattle.limits.specs.declared.refusal.Refusal.{Refusal}
use Rattle.entries.specs.Words.{all_words}
use Rattle.entries.specs.Ranking.{ranked}
use Rattle.decoding.specs.EntryOf.{entries_of}
use Rattle.decoding.specs.Contract.{outcome_of, Decodes}
use Rattle.decoding.proofs.Calls.{own_rules_law}
use Rattle.decoding.proofs.Demands.{demands, ranking}

module _ (bytes : List ℕ) (best : List Float) (back out : List ℕ) where
  abbrev refusal : Option Refusal
  refusal = refusal_with bytes (length best) (length back) (length out)

  pub decodes_refused : (q : Refusal) → refusal ≡ some q → Decodes bytes best back out (Err q) best back out
  decodes_refused q e = record {
    answered = sym (ap (λ (o : Option Refusal). outcome_of o (length (phrase_of bytes).candidates)) e);
    accepts = λ fine. absurd (some-ne-none q (sym e ∙ fine));
    refuses = λ p given. record { values = refl; marks = refl; words = refl };
  }

  pub decodes_accepted :
      {best' : List Float} {back' out' : List ℕ} (count : ℕ) → refusal ≡ none → count ≡ length (phrase_of bytes).candidates →
      out' ≡ all_words (limits_of bytes).units (ranked (entries_of (phrase_of bytes)))
      ++ drop (length (phrase_of bytes).candidates * entry_words (limits_of bytes).units) out →
      best' ≡ replicate (work_cells (limits_of bytes)) (of_bits binary64 0) ++ drop (work_cells (limits_of bytes)) best →
      back' ≡ replicate (work_cells (limits_of bytes)) 0 ++ drop (work_cells (limits_of bytes)) back →
      Decodes bytes best back out (Ok count) best' back' out'
  decodes_accepted count e counted words values marks =
      let own = own_rules_law bytes (length best) (length back) (length out) e in
      record {
        answered = ap accepted counted ∙ sym (ap (λ (o : Option Refusal). outcome_of o (length (phrase_of bytes).candidates)) e);
        accepts =
            λ fine. record { demands = demands bytes own; ranking = ranking bytes own; words = words; values = values; marks = marks };
        refuses = λ q given. absurd (none-ne-some q (sym e ∙ given));
      }
