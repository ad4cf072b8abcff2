-- Work areas whose first cells are zero bits are such as nothing has reached yet.
use Prim.Native.Nat.{ℕ, ◌≤◌, ◌<◌}
use mathlib.Core.List.{List, ◌++◌}
use mathlib.Core.Path.{◌≡◌, sym, ap, subst, ◌∙◌}
use native.Mathlib.Omega.{arith}
use lib.ListN.{length, get_or, drop, replicate, length-append, length-replicate, get_or-replicate, get_or-append}
use lib.Ieee.{Float, binary64, nan, of_bits}
use Rattle.paths.specs.Cell.{empty}
use Rattle.rows.specs.Rows.{Holds, unreached}
use Rattle.closed.specs.Asked.{Unused}

module _ {A : Type 0} (x d : A) (old : List A) (cells : ℕ) {new : List A} (e : new ≡ replicate cells x ++ drop cells old) where
  at_front : (i : ℕ) → i < cells → get_or new i d ≡ x
  at_front i below =
      ap (λ (l : List A). get_or l i d) e
      ∙ get_or-append (replicate cells x) (drop cells old) d i (omega (arith, length-replicate cells x))
      ∙ get_or-replicate cells i x d below

  front_there : cells ≤ length new
  front_there = omega (arith, ap length e, length-append (replicate cells x) (drop cells old), length-replicate cells x)

pub unused_cleared : (best : List Float) (back : List ℕ) (cells : ℕ) {best' : List Float} {back' : List ℕ}
    → best' ≡ replicate cells (of_bits binary64 0) ++ drop cells best → back' ≡ replicate cells 0 ++ drop cells back
    → cells ≤ length best → cells ≤ length back → Unused best' back' cells
unused_cleared best back cells {best'} {back'} values marks long enough = record {
  values = front_there (of_bits binary64 0) nan best cells values;
  marks = front_there 0 0 back cells marks;
  zero = λ j below.
      subst (λ (x : Float). Holds x (get_or back' j 0) empty) (sym (at_front (of_bits binary64 0) nan best cells values j below))
      (subst (λ (n : ℕ). Holds (of_bits binary64 0) n empty) (sym (at_front 0 0 back cells marks j below)) unreached);
}
