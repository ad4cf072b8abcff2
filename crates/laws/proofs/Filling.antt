-- A loop that writes the first n values of a function over the front of a list, j of them so far. Assumes nothing.
use Prim.Native.Nat.{ℕ, ◌+◌, ◌≤◌, ◌<◌}
use mathlib.Core.Path.{◌≡◌, refl, ap, ap₂, ◌∙◌}
use mathlib.Core.List.{List}
use native.Mathlib.Omega.{arith}
use lib.ListN.{length, set, length-set}
use Rattle.laws.specs.Inner.Tables.{written}
use Rattle.laws.proofs.Listed.{written_none, written_more}

pub record Filling {A : Type 0} (f : ℕ → A) (n : ℕ) (old now : List A) (j : ℕ) : Type 0 where
  pub fits : n ≤ length old
  pub sofar : j ≤ n
  pub front : now ≡ written f j old
  pub long : length now ≡ length old

module _ {A : Type 0} {f : ℕ → A} {n : ℕ} {old : List A} where
  pub filling_none : n ≤ length old → Filling f n old old 0
  filling_none h = record { fits = h; sofar = omega arith; front = written_none f old; long = refl }

  pub filling_more : {now : List A} {j : ℕ} {x : A} → Filling f n old now j → j < n → x ≡ f j → Filling f n old (set now j x) (j + 1)
  filling_more {now} {j} {x} filling h e =
      let below : j < length old = omega (arith, filling.fits) in record {
        fits = filling.fits;
        sofar = omega arith;
        front = ap₂ (λ (l : List A) (y : A). set l j y) filling.front e ∙ written_more f j old below;
        long = length-set now j x ∙ filling.long;
      }

  pub filling_all : {now : List A} {j : ℕ} → Filling f n old now j → n ≤ j → now ≡ written f n old
  filling_all {now} {j} filling h =
      let e : j ≡ n = omega (arith, filling.sofar) in
      filling.front ∙ ap (λ (m : ℕ). written f m old) e
