-- Rounded sums and differences grow with their operands, for all signs and zero results too. Assumes nothing.
use Rattle.std.proofs.Common.{◌≡◌, ℕ, ◌+◌, ◌-◌, ◌<◌, ◌≤◌, T, subst, mul-le-mul_right, zero-lt-suc, arith}
use lib.Ieee.{Float, Format, add, sub, le}
use lib.Ieee.Scale.{finite, overflow}
use Rattle.ieee.specs.Inner.Value.{over, under, Real}
use Rattle.ieee.specs.Theory.Rounded.{rounding, Result}
use Rattle.ieee.proofs.Value.{sides, real_small}
use Rattle.ieee.proofs.Order.{le_iff, le_refl}
use Rattle.ieee.proofs.Rounding.{rounding_mono}
use Rattle.ieee.proofs.Result.{add_result, sub_result}

-- the larger exact result has the larger rounded one
pub result_mono : {f : Format} {r r' : Float} {p n p' n' c : ℕ} → 0 < c → Result f r p n c → Result f r' p' n' c
    → T (finite r) → T (finite r') → p + n' ≤ p' + n → T (le r r')
result_mono {f} {r} {r'} {p} {n} {p'} {n'} {c} C a b t t' h =
    let x : Real f r = record { is_finite = t; is_held = a.held } in
    let y : Real f r' = record { is_finite = t'; is_held = b.held } in
    let up : over f r ≤ over f r' =
    grows (p - n) (p' - n') (over f r) (over f r') (a.above t) (b.above t') (omega arith) (omega (arith, sides f r', real_small y)) in
    let down : under f r' ≤ under f r =
    grows (n' - p') (n - p) (under f r') (under f r) (b.below t') (a.below t) (omega arith) (omega (arith, sides f r, real_small x)) in
    (le_iff x y).1 (omega arith)
  where
    grows : (k k' u u' : ℕ) → u ≡ rounding f k c → u' ≡ rounding f k' c → k ≤ k' → u' < overflow f → u ≤ u'
    grows k k' u u' e e' l small = omega (arith, rounding_mono f k c k' c C C (mul-le-mul_right c l) (subst (λ (z : ℕ). z < overflow f) e' small))

module _ {f : Format} {x x' y y' : Float} (p : Real f x) (p' : Real f x') (q : Real f y) (q' : Real f y') where
  pub add_mono_both : Real f (add f x y) → Real f (add f x' y') → T (le x x') → T (le y y') → T (le (add f x y) (add f x' y'))
  add_mono_both r r' h k =
      result_mono (zero-lt-suc 0) (add_result p q) (add_result p' q') r.is_finite r'.is_finite (omega (arith, (le_iff p p').0 h, (le_iff q q').0 k))

  pub sub_mono_both : Real f (sub f x y) → Real f (sub f x' y') → T (le x x') → T (le y' y) → T (le (sub f x y) (sub f x' y'))
  sub_mono_both r r' h k =
      result_mono (zero-lt-suc 0) (sub_result p q) (sub_result p' q') r.is_finite r'.is_finite (omega (arith, (le_iff p p').0 h, (le_iff q' q).0 k))

module _ {f : Format} {x x' y : Float} (p : Real f x) (p' : Real f x') (q : Real f y) where
  pub add_mono : Real f (add f x y) → Real f (add f x' y) → T (le x x') → T (le (add f x y) (add f x' y))
  add_mono r r' h = add_mono_both p p' q q r r' h (le_refl q)

  pub sub_mono : Real f (sub f x y) → Real f (sub f x' y) → T (le x x') → T (le (sub f x y) (sub f x' y))
  sub_mono r r' h = sub_mono_both p p' q q r r' h (le_refl q)
