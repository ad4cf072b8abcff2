-- Where no rule of the record's own holds, no condition does.
use Prim.Native.Nat.{ℕ, zero, suc, ◌+◌, ◌≤◌, ◌<◌, zero-le}
use mathlib.Core.Bool.{false}
use mathlib.Core.List.{List}
use mathlib.Core.Path.{◌≡◌, subst}
use mathlib.Core.Logic.{⊎_elim}
use native.Mathlib.Nat.{eq-or-lt_of_le}
use native.Mathlib.Omega.{arith}
use Rattle.laws.specs.Inner.Each.{Each, each_more}
use Rattle.laws.proofs.Rules.{Fails}
use Rattle.record.specs.Layout.{trailer_start, trailer_of, layout_of}
use Rattle.record.specs.Conditions.{stub, other_edition, oversized, overreaching, bad_track, bad_cost, bare, repeated, bad_units, bad_column}
use Rattle.record.specs.Refusals.{trailer_rules, content_rules, first_rules, candidate_rules, own_rules}
use Rattle.limits.specs.declared.edition.Limits.{Limits}

pub record CandidatePassed (l : Limits) (bytes : List ℕ) (i : ℕ) : Type 0 where
  pub twice : repeated l bytes (layout_of bytes) i ≡ false
  pub units : bad_units l bytes (layout_of bytes) i ≡ false
  pub column : bad_column l bytes (layout_of bytes) i ≡ false

pub record Passed (l : Limits) (bytes : List ℕ) : Type 0 where
  pub stub : stub bytes ≡ false
  pub edition : other_edition l (trailer_of bytes) ≡ false
  pub size : oversized l (trailer_of bytes) ≡ false
  pub reach : overreaching l (trailer_start bytes) (trailer_of bytes) ≡ false
  pub track : bad_track bytes (layout_of bytes) ≡ false
  pub cost : bad_cost bytes (layout_of bytes) ≡ false
  pub bare : bare (layout_of bytes) ≡ false
  pub candidate : (i : ℕ) → i < (layout_of bytes).candidates.count → CandidatePassed l bytes i

candidates_passed : (l : Limits) (bytes : List ℕ) (i n : ℕ) → Each Fails (candidate_rules l bytes i n) → (k : ℕ) → i ≤ k → k < i + n → CandidatePassed l bytes k
unfolding candidate_rules
candidates_passed l bytes i zero fs k from to = let no : ⊥ = omega arith in absurd no
candidates_passed l bytes i (suc n) (each_more twice (each_more units (each_more column more))) k from to =
    ⊎_elim
    (λ (h : i ≡ k). subst (CandidatePassed l bytes) h (record { twice = twice.not_held; units = units.not_held; column = column.not_held }))
    (λ (h : i < k). candidates_passed l bytes (suc i) n more k h (omega arith))
    (eq-or-lt_of_le from)

pub none_holds : (l : Limits) (bytes : List ℕ) → Each Fails (own_rules l bytes) → Passed l bytes
unfolding own_rules first_rules trailer_rules content_rules
none_holds l bytes (each_more stub (each_more edition (each_more size (each_more reach (each_more track (each_more cost (each_more bare candidates))))))) =
    record {
      stub = stub.not_held;
      edition = edition.not_held;
      size = size.not_held;
      reach = reach.not_held;
      track = track.not_held;
      cost = cost.not_held;
      bare = bare.not_held;
      candidate = λ i below. candidates_passed l bytes 0 (layout_of bytes).candidates.count candidates i zero-le (omega arith);
    }
