-- The scaled figure of an f64: twice what it is in units of the format, and nothing is cut off. Assumes nothing.
use Prim.Native.Nat.{ℕ, ◌*◌, ◌/◌}
use mathlib.Core.Bool.{true, false}
use mathlib.Core.Path.{◌≡◌, refl, ap, ◌∙◌}
use native.Mathlib.Nat.{mul-div_cancel}
use native.Mathlib.Omega.{arith}
use lib.IntN.{pos, nat_abs}
use lib.Ieee.{Float, nan, inf, fin, binary64}
use lib.Ieee.Positive.{num, den, den_pos}
use Rattle.ieee.specs.Inner.Value.{one, mag, over, under, Real}
use Rattle.ieee.proofs.Value.{exact, sides}
use Rattle.exact.specs.Scaled.{scale, scaled}
use Rattle.exact.specs.Apart.{above}
use Rattle.exact.specs.Theory.Close.{below}
use Rattle.exact.proofs.Parts.{below_pos, below_neg, abs_parts}

pub scale_is : scale ≡ 2 * one binary64
unfolding scale one
scale_is = refl

parts_are : {x : Float} → Real binary64 x → num x * scale / den x ≡ 2 * mag binary64 x
parts_are {x} r = ap (λ (z : ℕ). z / den x) whole ∙ mul-div_cancel (2 * mag binary64 x) (den_pos x)
  where
    whole : num x * scale ≡ 2 * mag binary64 x * den x
    whole = omega (arith, exact r, ap (λ (z : ℕ). num x * z) scale_is)

pub scaled_above : (x : Float) → Real binary64 x → above (scaled x) ≡ 2 * over binary64 x
unfolding scaled over
scaled_above nan r = absurd r.is_finite
scaled_above (inf s) r = absurd r.is_finite
scaled_above (fin false m e) r = parts_are r
scaled_above (fin true m e) r = below_pos (num (fin true m e) * scale / den (fin true m e))

pub scaled_below : (x : Float) → Real binary64 x → below (scaled x) ≡ 2 * under binary64 x
unfolding scaled under
scaled_below nan r = absurd r.is_finite
scaled_below (inf s) r = absurd r.is_finite
scaled_below (fin false m e) r = below_pos (num (fin false m e) * scale / den (fin false m e))
scaled_below (fin true m e) r = below_neg (pos (num (fin true m e) * scale / den (fin true m e))) ∙ parts_are r

-- The size of an f64's scaled figure is its numerator times the power of two, over its denominator, without a remainder. Its sign is that of
-- the f64, by the two laws above.
pub nothing_cut : {x : Float} → Real binary64 x → nat_abs (scaled x) * den x ≡ num x * scale
nothing_cut {x} r =
    let size : nat_abs (scaled x) ≡ 2 * mag binary64 x =
    omega (arith, abs_parts (scaled x), scaled_above x r, scaled_below x r, sides binary64 x) in
    ap (λ (z : ℕ). z * den x) size ∙ omega (arith, exact r, ap (λ (z : ℕ). num x * z) scale_is)
