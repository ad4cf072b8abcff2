-- Half of a whole number, and of a scaled figure times a count, where no remainder is cut off. Document 02 asks for halves of a frame in Ask 5;
-- nothing counts them yet. Assumes nothing.
use Prim.Native.Nat.{ℕ, suc, ◌*◌, ◌/◌}
use mathlib.Core.Path.{◌≡◌, refl, sym, ap, ◌∙◌}
use native.Mathlib.Omega.{arith}
use lib.IntN.{ℤ, pos, negsuc, neg_ℤ, ◌*ℤ◌}
use lib.Ieee.{Float, binary64}
use Rattle.ieee.specs.Inner.Value.{Real}
use Rattle.exact.specs.Scaled.{scaled}
use Rattle.exact.specs.Apart.{above}
use Rattle.exact.specs.Theory.Close.{below}
use Rattle.exact.proofs.Parts.{below_pos, below_neg, mul_above, mul_below}
use Rattle.exact.proofs.Scaled.{scaled_above, scaled_below}

-- Half of a whole number. Of a scaled figure times any count no remainder is cut off: `half_whole`.
abbrev pub halved : ℤ → ℤ
halved (pos n) = pos (n / 2)
halved (negsuc n) = neg_ℤ (pos (suc n / 2))

pub halved_above : (a : ℤ) → above (halved a) ≡ above a / 2
halved_above (pos n) = refl
halved_above (negsuc n) = below_pos (suc n / 2)

pub halved_below : (a : ℤ) → below (halved a) ≡ below a / 2
halved_below (pos n) = below_pos (n / 2) ∙ ap (λ (k : ℕ). k / 2) (sym (below_pos n))
halved_below (negsuc n) = below_neg (pos (suc n / 2))

-- a number is known by how far it is above and below 0
same_parts : (a b : ℤ) → above a ≡ above b → below a ≡ below b → a ≡ b
same_parts (pos m) (pos n) e f = ap pos e
same_parts (pos m) (negsuc n) e f = absurd (unequal (sym (below_pos m) ∙ f))
  where
    unequal : 0 ≡ suc n → ⊥
    unequal e = omega arith
same_parts (negsuc m) (pos n) e f = absurd (unequal (f ∙ below_pos n))
  where
    unequal : suc m ≡ 0 → ⊥
    unequal e = omega arith
same_parts (negsuc m) (negsuc n) e f = ap negsuc (omega arith)

-- Half of a scaled figure times a count is whole: an f64 is a whole number of units, and two parts make one.
pub half_whole : {x : Float} → Real binary64 x → (n : ℕ) → halved (scaled x *ℤ pos n) *ℤ pos 2 ≡ scaled x *ℤ pos n
half_whole {x} r n =
    let z = scaled x *ℤ pos n in
    same_parts (halved z *ℤ pos 2) z
    (mul_above (halved z) 2 ∙ omega (arith, halved_above z, mul_above (scaled x) n, ap (λ (k : ℕ). k * n) (scaled_above x r)))
    (mul_below (halved z) 2 ∙ omega (arith, halved_below z, mul_below (scaled x) n, ap (λ (k : ℕ). k * n) (scaled_below x r)))
