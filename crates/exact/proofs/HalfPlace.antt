-- Half the last place of an f64 that is as large as a power of two: it doubles with each power, and it is the half of a place. Assumes nothing.
use Prim.Native.Nat.{ℕ, ◌+◌, ◌-◌, ◌*◌, ◌^◌}
use mathlib.Core.Path.{◌≡◌, ap, ◌∙◌}
use native.Mathlib.Omega.{arith}
use lib.Pow.{pow-add}
use lib.Ieee.{binary64, prec, low}
use Rattle.exact.specs.Theory.Close.{half_place}

pub double_place : (v j : ℕ) → half_place (v + j) ≡ 2 ^ j * half_place v
unfolding half_place
double_place v j = ap (λ (z : ℕ). 2 ^ z) order ∙ pow-add 2 j (v + 1021)
  where
    order : v + j + 1021 ≡ j + (v + 1021)
    order = omega arith

pub place_is : (v : ℕ) → 2 ^ (v + low binary64 - prec binary64) ≡ half_place v
unfolding half_place
place_is v = ap (λ (z : ℕ). 2 ^ z) order
  where
    order : v + low binary64 - prec binary64 ≡ v + 1021
    order = omega arith
