-- Lists without a number above a limit.
use Prim.Native.Nat.{ℕ, ◌≤◌}
use mathlib.Core.Bool.{false}
use mathlib.Core.Path.{◌≡◌}
use mathlib.Core.List.{List, Memᴰ}
use native.Mathlib.Omega.{arith}
use lib.Dec.{ltb}
use borrow.Author.Tests.{ltb-false}
use Rattle.laws.proofs.Choices.{neither_left, neither_right}
use Rattle.frames.specs.Outcome.{any_above}

-- no number above the limit: none of the members is
pub within : {limit : ℕ} {x : ℕ} {xs : List ℕ} → any_above limit xs ≡ false → Memᴰ x xs → x ≤ limit
within {limit} e (Memᴰ.head {x = y} {xs = ys} same) =
    let low = ltb-false limit y (neither_left (ltb limit y) (any_above limit ys) e) in
    omega arith
within {limit} e (Memᴰ.tail {x = y} {xs = ys} m) = within (neither_right (ltb limit y) (any_above limit ys) e) m
