-- Candidate entries: of one size, one after the other, each with a unit count in its range.
use Prim.Native.Nat.{ℕ, ◌+◌, ◌*◌, ◌≤◌, ◌<◌}
use mathlib.Core.Bool.{false}
use mathlib.Core.List.{List}
use mathlib.Core.Path.{◌≡◌, subst}
use native.Mathlib.Nat.{mul-suc, mul-le-mul_left}
use borrow.Author.Tests.{ltb-false}
use lib.Dec.{eqb, ltb}
use Rattle.laws.proofs.Numbers.{not_zero}
use Rattle.laws.proofs.Choices.{neither_left, neither_right}
use Rattle.record.specs.Conditions.{units_at, bad_units}
use Rattle.limits.specs.declared.edition.Limits.{Limits}
use Rattle.record.specs.declared.layout.Layout.{Layout}

-- entry i of n, each of `size` numbers, ends within them
pub entry_within : (size : ℕ) {n i : ℕ} → i < n → size * i + size ≤ size * n
entry_within size {n} {i} l = subst (λ (k : ℕ). k ≤ size * n) (mul-suc size i) (mul-le-mul_left size l)

-- where condition 9 does not hold
module _ (l : Limits) (bytes : List ℕ) (at : Layout) (i : ℕ) (fine : bad_units l bytes at i ≡ false) where
  pub units_some : 0 < units_at l bytes at i
  units_some = not_zero _ (neither_left (eqb (units_at l bytes at i) 0) (ltb l.units (units_at l bytes at i)) fine)

  pub units_most_law : units_at l bytes at i ≤ l.units
  units_most_law = ltb-false _ _ (neither_right (eqb (units_at l bytes at i) 0) (ltb l.units (units_at l bytes at i)) fine)
