-- Values without their signs are in the order of their patterns, in any format: those of finite values are ordered as their
-- magnitudes are (proofs/Pattern.antt), and an infinity's lies above them all.
use Rattle.std.proofs.Common.{◌≡◌, ℕ, zero, suc, ◌+◌, ◌-◌, ◌*◌, ◌/◌, ◌%◌, ◌^◌, ◌<◌, ◌≤◌, Bool, true, false, cond, not, T, ltb, ◌↔◌, ℤ, sym, ap, ◌∙◌, subst, add_assoc, mod-eq_of_lt, lt_of_not-le, zero-add, not-le_of_lt, arith, ltb→lt, lt→ltb, le-ltb, lt-ltb}
use lib.Ieee.{Float, nan, inf, fin, Format, prec, low, up, down, size, lt, is_nan, fits, hid, ones, top, of_bits, to_bits}
use lib.Ieee.Bits.{of_bits-to_bits, to_bits-lt}
use lib.Ieee.Fits.{inf-fits}
use lib.Ieee.Scale.{finite}
use Rattle.laws.proofs.Tests.{same_test}
use Rattle.ieee.specs.Inner.Value.{mag, over, under, Real}
use Rattle.ieee.specs.TotalOrder.{negative}
use Rattle.ieee.specs.Inner.Keys.{Comparable}
use Rattle.ieee.proofs.Order.{lt_iff}
use Rattle.ieee.proofs.Pattern.{finite_pattern, pattern_le}
use Rattle.ieee.proofs.NarrowPattern.{to_bits_inf}

-- ---- a value without its sign, and the pattern of that
abbrev pub bare : Float → Float
bare nan = nan
bare (inf s) = inf false
bare (fin s m e) = fin false m e

resigned : (f : Format) (s t : Bool) (m : ℕ) (e : ℤ) → T (fits f (fin s m e)) → T (fits f (fin t m e))
unfolding fits
resigned f s t zero e h = h
resigned f s t (suc m) e h = h

pub bare_comparable : (f : Format) (x : Float) → Comparable f x → Comparable f (bare x)
unfolding is_nan
bare_comparable f nan v = v
bare_comparable f (inf s) v = record { held = inf-fits f false; number = tt }
bare_comparable f (fin s m e) v = record { held = resigned f s false m e v.held; number = tt }

pub to_bits_sign : (f : Format) (x : Float) → T (not (is_nan x)) → to_bits f x ≡ cond (negative x) (top f) 0 + to_bits f (bare x)
unfolding to_bits is_nan
to_bits_sign f nan h = absurd h
to_bits_sign f (inf s) h = ap (λ (n : ℕ). cond s (top f) 0 + n) (sym (zero-add (ones f * hid f)))
to_bits_sign f (fin s m e) h =
    let n = m * up e * 2 ^ low f / down e in
    let k = size n - prec f in
    add_assoc (cond s (top f) 0) (k * hid f) (n / 2 ^ k)
    ∙ ap (λ (z : ℕ). cond s (top f) 0 + (z + n / 2 ^ k)) (sym (zero-add (k * hid f)))

-- without a sign a pattern is below the sign's weight: with it, it is still a number of the format's width
pub bare_lt : (f : Format) (x : Float) → Comparable f x → to_bits f (bare x) < top f
unfolding is_nan
bare_lt f nan v = absurd v.number
bare_lt f (inf s) v = omega (arith, to_bits-lt f (inf true) (inf-fits f true), to_bits_sign f (inf true) tt)
bare_lt f (fin s m e) v = omega (arith, to_bits-lt f (fin true m e) (resigned f s true m e v.held), to_bits_sign f (fin true m e) tt)

pub same_bits : (f : Format) (x y : Float) → T (fits f x) → T (fits f y) → to_bits f x ≡ to_bits f y → x ≡ y
same_bits f x y h k e = sym (of_bits-to_bits f x h) ∙ ap (of_bits f) e ∙ of_bits-to_bits f y k

-- ---- the order

-- a finite value
module _ (f : Format) (s : Bool) (m : ℕ) (e : ℤ) (v : Comparable f (fin s m e)) where
  pub bare_real : Real f (fin false m e)
  bare_real = record { is_finite = tt; is_held = (bare_comparable f (fin s m e) v).held }

  unsigned : to_bits f (fin false m e) % top f ≡ to_bits f (fin false m e)
  unsigned = mod-eq_of_lt (bare_lt f (fin s m e) v)

  read : of_bits f (to_bits f (fin false m e)) ≡ fin false m e
  read = of_bits-to_bits f (fin false m e) bare_real.is_held

  below_inf : to_bits f (fin false m e) < ones f * hid f
  below_inf = omega (arith, unsigned, finite_pattern f (to_bits f (fin false m e)) (subst (λ (x : Float). T (finite x)) (sym read) tt))

module _ (f : Format) (s : Bool) (m : ℕ) (e : ℤ) (t : Bool) (n : ℕ) (d : ℤ) (v : Comparable f (fin s m e)) (w : Comparable f (fin t n d)) where
  bits_le : (to_bits f (fin false n d) ≤ to_bits f (fin false m e)) ↔ (mag f (fin false n d) ≤ mag f (fin false m e))
  bits_le =
      let a = to_bits f (fin false m e) in
      let b = to_bits f (fin false n d) in
      subst (λ (x : Float). (b ≤ a) ↔ (mag f (fin false n d) ≤ mag f x)) (read f s m e v)
      (subst (λ (y : Float). (b ≤ a) ↔ (mag f y ≤ mag f (of_bits f a))) (read f t n d w)
      (subst (λ (r : ℕ). (r ≤ a) ↔ (mag f (of_bits f b) ≤ mag f (of_bits f a))) (unsigned f t n d w)
      (pattern_le f a (below_inf f s m e v) b (subst (λ (r : ℕ). r < ones f * hid f) (sym (unsigned f t n d w)) (below_inf f t n d w)))))

  finite_order : ltb (to_bits f (fin false m e)) (to_bits f (fin false n d)) ≡ lt (fin false m e) (fin false n d)
  unfolding over under
  finite_order =
      let x = fin false m e in
      let y = fin false n d in
      let i = lt_iff (bare_real f s m e v) (bare_real f t n d w) in
      same_test (ltb (to_bits f x) (to_bits f y)) (lt x y)
      (λ h. i.1 (omega (arith, lt_of_not-le (λ (g : mag f y ≤ mag f x). not-le_of_lt (ltb→lt (to_bits f x) (to_bits f y) h) (bits_le.1 g)))))
      (λ h. lt→ltb (to_bits f x) (to_bits f y) (lt_of_not-le (λ (g : to_bits f y ≤ to_bits f x). omega (arith, i.0 h, bits_le.0 g))))

pub magnitude_order : (f : Format) (x y : Float) → Comparable f x → Comparable f y → ltb (to_bits f (bare x)) (to_bits f (bare y)) ≡ lt (bare x) (bare y)
unfolding lt is_nan
magnitude_order f nan y v w = absurd v.number
magnitude_order f (inf s) nan v w = absurd w.number
magnitude_order f (fin s m e) nan v w = absurd w.number
magnitude_order f (inf s) (inf t) v w = le-ltb (to_bits f (inf false)) (to_bits f (inf false)) (omega arith)
magnitude_order f (inf s) (fin t n d) v w = le-ltb (to_bits f (inf false)) (to_bits f (fin false n d)) (omega (arith, to_bits_inf f false, below_inf f t n d w))
magnitude_order f (fin s m e) (inf t) v w = lt-ltb (to_bits f (fin false m e)) (to_bits f (inf false)) (omega (arith, to_bits_inf f false, below_inf f s m e v))
magnitude_order f (fin s m e) (fin t n d) v w = finite_order f s m e t n d v w
