-- `round` in units of the format: its result is `rounding` with the sign it is given. `rounding` depends on the fraction alone, keeps
-- whole numbers as long as the format counts them without a gap, and keeps the order. Assumes nothing.
use lib.Ieee.{nan}
use Rattle.std.proofs.Common.{◌≡◌, ℕ, suc, ◌-◌, ◌*◌, ◌^◌, ◌<◌, ◌≤◌, Bool, true, false, cond, not, T, ltb, sym, ap, ◌∙◌, subst, zero-le, mul-le-mul_right, zero-lt-suc, mul_assoc, mul-pos, arith, ltb→lt, pow_pos}
use lib.Ieee.{Float, inf, fin, Format, prec, low, odd, units, round, le, is_nan}
use lib.Ieee.Fits.{round-fits, round_is}
use lib.Ieee.Exact.{HasValue, odd_sign, units_val}
use lib.Ieee.Nearest.{closest, closest_same, div_same}
use lib.Ieee.Order.{kept, drop, round_mono}
use lib.Ieee.Scale.{finite, overflow}
use lib.Ieee.Back.{round_whole}
use Rattle.ieee.specs.Inner.Value.{one, mag, over, under, Real}
use Rattle.ieee.specs.Theory.Rounded.{rounding}
use Rattle.ieee.proofs.Value.{one_pos, finite_number, value_finite, value_mag, whole_mag, value_over, value_under}
use Rattle.ieee.proofs.Order.{le_iff}

-- ---- `round`, by its sign and its number of units

module _ (f : Format) (s : Bool) (a d : ℕ) where
  opened : round f s a d ≡ cond (ltb (rounding f (a * one f) d) (overflow f))
      (odd (suc (prec f)) s (kept (prec f) (a * one f) d) (drop (prec f) (a * one f) d) (low f)) (inf s)
  unfolding one rounding units
  opened = round_is f s a d

  module _ (h : rounding f (a * one f) d < overflow f) where
    pub round_value : HasValue (round f s a d) s (rounding f (a * one f) d) (one f)
    unfolding one rounding
    round_value = subst (λ (z : Float). HasValue z s (rounding f (a * one f) d) (one f)) (sym (round_is f s a d))
        (units_val f s (kept (prec f) (a * one f) d) (drop (prec f) (a * one f) d) h)

    pub round_mag : mag f (round f s a d) ≡ rounding f (a * one f) d
    round_mag = value_mag f (round f s a d) s (rounding f (a * one f) d) round_value

    pub round_over : over f (round f s a d) ≡ cond s 0 (rounding f (a * one f) d)
    round_over = value_over f (round f s a d) s (rounding f (a * one f) d) (one f) round_value ∙ ap (λ (z : ℕ). cond s 0 z) round_mag

    pub round_under : under f (round f s a d) ≡ cond s (rounding f (a * one f) d) 0
    round_under = value_under f (round f s a d) s (rounding f (a * one f) d) (one f) round_value ∙ ap (λ (z : ℕ). cond s z 0) round_mag

    pub round_real : Real f (round f s a d)
    round_real = record { is_finite = value_finite (round f s a d) s (rounding f (a * one f) d) (one f) round_value; is_held = round-fits f s a d }

  pub round_finite : T (finite (round f s a d)) → rounding f (a * one f) d < overflow f
  round_finite t =
      go (ltb (rounding f (a * one f) d) (overflow f)) (ltb→lt (rounding f (a * one f) d) (overflow f))
      (subst (λ (z : Float). T (finite z)) opened t)
    where
      go : (b : Bool) → (T b → rounding f (a * one f) d < overflow f)
          → T (finite (cond b (odd (suc (prec f)) s (kept (prec f) (a * one f) d) (drop (prec f) (a * one f) d) (low f)) (inf s)))
          → rounding f (a * one f) d < overflow f
      go true h u = h tt
      go false h u = absurd u

  pub round_number : T (not (is_nan (round f s a d)))
  round_number = subst (λ (z : Float). T (not (is_nan z))) (sym opened) (go (ltb (rounding f (a * one f) d) (overflow f)))
    where
      x : Float
      x = odd (suc (prec f)) s (kept (prec f) (a * one f) d) (drop (prec f) (a * one f) d) (low f)

      go : (b : Bool) → T (not (is_nan (cond b x (inf s))))
      go true = finite_number x (value_finite x s _ _ (odd_sign (suc (prec f)) s (kept (prec f) (a * one f) d) (drop (prec f) (a * one f) d) (low f)))
      go false = unfold is_nan in tt

-- ---- equal fractions

pub rounding_same : (f : Format) (a b c d : ℕ) → 0 < b → 0 < d → a * d ≡ c * b → rounding f a b ≡ rounding f c d
unfolding rounding
rounding_same f a b c d B D e =
    let p = prec f in
    let k : drop p a b ≡ drop p c d = ap (λ (z : ℕ). lib.Ieee.size z - p) (div_same a b c d B D e) in
    let j = drop p c d in
    let y : a * (d * 2 ^ j) ≡ c * (b * 2 ^ j) = sym (mul_assoc a d (2 ^ j)) ∙ ap (λ (z : ℕ). z * 2 ^ j) e ∙ mul_assoc c b (2 ^ j) in
    ap (λ (z : ℕ). closest a (b * 2 ^ z) * 2 ^ z) k
    ∙ ap (λ (z : ℕ). z * 2 ^ j) (closest_same a (b * 2 ^ j) c (d * 2 ^ j) (mul-pos B (pow_pos j)) (mul-pos D (pow_pos j)) y)

-- ---- whole numbers

whole_value : (f : Format) (a : ℕ) → a ≤ 2 ^ prec f → rounding f (a * one f) 1 < overflow f
whole_value f a h = round_finite f false a 1 (value_finite (round f false a 1) false a 1 (round_whole f false a h))

pub rounding_whole : (f : Format) (a : ℕ) → a ≤ 2 ^ prec f → rounding f (a * one f) 1 ≡ a * one f
rounding_whole f a h =
    sym (value_mag f (round f false a 1) false (rounding f (a * one f) 1) (round_value f false a 1 (whole_value f a h)))
    ∙ whole_mag f (round f false a 1) false a (round_whole f false a h)

pub whole_under : (f : Format) (a : ℕ) → a ≤ 2 ^ prec f → a * one f < overflow f
whole_under f a h = subst (λ (z : ℕ). z < overflow f) (rounding_whole f a h) (whole_value f a h)

pub rounding_zero : (f : Format) (c : ℕ) → 0 < c → rounding f 0 c ≡ 0
rounding_zero f c C = rounding_same f 0 c (0 * one f) 1 C (zero-lt-suc 0) (omega arith) ∙ rounding_whole f 0 zero-le ∙ nothing
  where
    nothing : 0 * one f ≡ 0
    nothing = omega arith

-- ---- the order

-- what lies below a finite value and is not negative is finite
below_finite : (b : Bool) (x y : Float) → T (finite y) → T (le (cond b x (inf false)) y) → T b
unfolding le
below_finite false x nan t h = elim t [ ]
below_finite false x (inf _) t h = elim t [ ]
below_finite true x y t h = tt
below_finite false x (fin s m e) t h = absurd h

module _ (f : Format) (n c n' c' : ℕ) (C : 0 < c) (C' : 0 < c') where
  at_unit : (n c : ℕ) → 0 < c → rounding f n c ≡ rounding f (n * one f) (c * one f)
  at_unit n c C = rounding_same f n c (n * one f) (c * one f) C (mul-pos C (one_pos f)) (omega arith)

  pub rounding_mono : n * c' ≤ n' * c → rounding f n' c' < overflow f → rounding f n c ≤ rounding f n' c'
  rounding_mono h l =
      let o = one f in
      let d = c * o in
      let d' = c' * o in
      let y = round f false n' d' in
      let below : T (le (round f false n d) y) =
      round_mono f n d n' d' (mul-pos C (one_pos f)) (mul-pos C' (one_pos f)) (omega (arith, mul-le-mul_right o h)) in
      let l' : rounding f (n' * o) d' < overflow f = subst (λ (z : ℕ). z < overflow f) (at_unit n' c' C') l in
      let k : rounding f (n * o) d < overflow f =
      ltb→lt (rounding f (n * o) d) (overflow f)
      (below_finite (ltb (rounding f (n * o) d) (overflow f)) (odd (suc (prec f)) false (kept (prec f) (n * o) d) (drop (prec f) (n * o) d) (low f)) y
      (round_real f false n' d' l').is_finite
      (subst (λ (z : Float). T (le z y)) (opened f false n d) below)) in
      omega (
        arith,
        (le_iff (round_real f false n d k) (round_real f false n' d' l')).0 below,
        round_over f false n d k,
        round_under f false n d k,
        round_over f false n' d' l',
        round_under f false n' d' l',
        at_unit n c C,
        at_unit n' c' C',
      )
