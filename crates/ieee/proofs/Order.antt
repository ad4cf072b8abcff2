-- IEEE 754's order of real values is the order of natural numbers: x ≤ y where over x - under x ≤ over y - under y, written
-- without subtraction. The two zeros are equal by themselves. From that the laws that a search for a largest value needs.
-- Assumes nothing.
use lib.Ieee.{inf, nan}
use Rattle.std.proofs.Common.{◌≡◌, ℕ, ◌+◌, ◌*◌, ◌<◌, ◌≤◌, Bool, true, false, cond, not, T, eqb, ◌↔◌, ℤ, sym, ap, ◌∙◌, subst, inl, inr, le_of_eq, le_of_lt, mul_comm, lt_of_mul-lt-mul_right, eq-or-lt_of_le, mul-lt-mul_of_pos_right, mul-pos, arith, eqb→eq, ltb→lt, lt→ltb, T_not}
use mathlib.Core.Logic.Iff
use native.Mathlib.Nat.{eq_of_mul-eq-mul_right}
use lib.Ieee.{Float, fin, Format, up, down, below, level, lt, eq, le}
use lib.Ieee.Fits.{and_i, and_l, and_r, eq→eqb}
use lib.Ieee.Scale.{finite}
use lib.Ieee.Positive.{den_pos}
use Rattle.ieee.specs.Inner.Value.{one, mag, over, under, Real}
use Rattle.laws.proofs.Tests.{either, either_left, either_right}
use Rattle.laws.proofs.Numbers.{le_of_not_lt}
use Rattle.ieee.proofs.Value.{one_pos, exact}

-- ---- the order of ±a and ±b

lt_signs : (s t : Bool) (a b : ℕ) → T (below s a t b) ↔ (cond s 0 a + cond t b 0 < cond t 0 b + cond s a 0)
lt_signs false false a b = (λ h. omega (arith, ltb→lt a b h), λ h. lt→ltb a b (omega arith))
lt_signs false true a b = (λ h. absurd h, λ h. omega arith)
lt_signs true false a b = (λ h. omega (arith, ltb→lt 0 (a + b) h), λ h. lt→ltb 0 (a + b) (omega arith))
lt_signs true true a b = (λ h. omega (arith, ltb→lt b a h), λ h. lt→ltb b a (omega arith))

eq_signs : (s t : Bool) (a b : ℕ) → T (level s a t b) ↔ (cond s 0 a + cond t b 0 ≡ cond t 0 b + cond s a 0)
eq_signs false false a b = (λ h. omega (arith, eqb→eq a b (and_l (eqb a b) true h)), λ h. and_i (eqb a b) true (eq→eqb {a = a} {b = b} (omega arith)) tt)
eq_signs false true a b = (
  λ h. omega (arith, eqb→eq a b (and_l (eqb a b) (eqb a 0) h), eqb→eq a 0 (and_r (eqb a b) (eqb a 0) h)),
  λ h. and_i (eqb a b) (eqb a 0) (eq→eqb {a = a} {b = b} (omega arith)) (eq→eqb {a = a} {b = 0} (omega arith)),
)
eq_signs true false a b = (
  λ h. omega (arith, eqb→eq a b (and_l (eqb a b) (eqb a 0) h), eqb→eq a 0 (and_r (eqb a b) (eqb a 0) h)),
  λ h. and_i (eqb a b) (eqb a 0) (eq→eqb {a = a} {b = b} (omega arith)) (eq→eqb {a = a} {b = 0} (omega arith)),
)
eq_signs true true a b = (λ h. omega (arith, eqb→eq a b (and_l (eqb a b) true h)), λ h. and_i (eqb a b) true (eq→eqb {a = a} {b = b} (omega arith)) tt)

-- ---- in units of the format, whatever the two fractions

cross : (s t : Bool) (u v d e a b o : ℕ) → u * d ≡ a * o → v * e ≡ b * o
    → (cond s 0 u + cond t v 0) * (d * e) ≡ (cond s 0 (a * e) + cond t (b * d) 0) * o
cross false false u v d e a b o p q = omega (arith, ap (λ (z : ℕ). z * e) p)
cross false true u v d e a b o p q = omega (arith, ap (λ (z : ℕ). z * e) p, ap (λ (z : ℕ). z * d) q)
cross true false u v d e a b o p q = omega arith
cross true true u v d e a b o p q = omega (arith, ap (λ (z : ℕ). z * d) q)

lt_scale : (p q p' q' k o : ℕ) → 0 < k → 0 < o → p * k ≡ p' * o → q * k ≡ q' * o → (p' < q') ↔ (p < q)
lt_scale p q p' q' k o K O e g = (
  λ h. lt_of_mul-lt-mul_right k (subst (λ (z : ℕ). z < q * k) (sym e) (subst (λ (z : ℕ). p' * o < z) (sym g) (mul-lt-mul_of_pos_right h O))),
  λ h. lt_of_mul-lt-mul_right o (subst (λ (z : ℕ). z < q' * o) e (subst (λ (z : ℕ). p * k < z) g (mul-lt-mul_of_pos_right h K))),
)

eq_scale : (p q p' q' k o : ℕ) → 0 < k → 0 < o → p * k ≡ p' * o → q * k ≡ q' * o → (p' ≡ q') ↔ (p ≡ q)
eq_scale p q p' q' k o K O e g = (
  λ h. eq_of_mul-eq-mul_right k K p q (e ∙ ap (λ (z : ℕ). z * o) h ∙ sym g),
  λ h. eq_of_mul-eq-mul_right o O p' q' (sym e ∙ ap (λ (z : ℕ). z * k) h ∙ g),
)

module _ (f : Format) (s : Bool) (m : ℕ) (e : ℤ) (t : Bool) (n : ℕ) (d : ℤ) (x : Real f (fin s m e)) (y : Real f (fin t n d)) where
  a : ℕ
  a = m * up e * down d

  b : ℕ
  b = n * up d * down e

  k : ℕ
  k = down e * down d

  k_pos : 0 < k
  unfolding k
  k_pos = mul-pos (den_pos (fin s m e)) (den_pos (fin t n d))

  left : (over f (fin s m e) + under f (fin t n d)) * k ≡ (cond s 0 a + cond t b 0) * one f
  unfolding over under a b k
  left = cross s t (mag f (fin s m e)) (mag f (fin t n d)) (down e) (down d) (m * up e) (n * up d) (one f) (exact x) (exact y)

  right : (over f (fin t n d) + under f (fin s m e)) * k ≡ (cond t 0 b + cond s a 0) * one f
  unfolding over under a b k
  right =
      ap (λ (z : ℕ). (over f (fin t n d) + under f (fin s m e)) * z) (mul_comm (down e) (down d))
      ∙ cross t s (mag f (fin t n d)) (mag f (fin s m e)) (down d) (down e) (n * up d) (m * up e) (one f) (exact y) (exact x)

  lt_fin : T (lt (fin s m e) (fin t n d)) ↔ (over f (fin s m e) + under f (fin t n d) < over f (fin t n d) + under f (fin s m e))
  unfolding lt a b
  lt_fin = Iff.trans (lt_signs s t a b) (lt_scale _ _ _ _ k (one f) k_pos (one_pos f) left right)

  eq_fin : T (eq (fin s m e) (fin t n d)) ↔ (over f (fin s m e) + under f (fin t n d) ≡ over f (fin t n d) + under f (fin s m e))
  unfolding eq a b
  eq_fin = Iff.trans (eq_signs s t a b) (eq_scale _ _ _ _ k (one f) k_pos (one_pos f) left right)

-- ---- the order of real values

lt_at : (f : Format) (x y : Float) → T (finite x) → T (finite y) → Real f x → Real f y
    → T (lt x y) ↔ (over f x + under f y < over f y + under f x)
lt_at f nan _ p q x y = elim p [ ]
lt_at f (inf _) _ p q x y = elim p [ ]
lt_at f (fin s m e) nan p q x y = elim q [ ]
lt_at f (fin s m e) (inf _) p q x y = elim q [ ]
lt_at f (fin s m e) (fin t n d) p q x y = lt_fin f s m e t n d x y

eq_at : (f : Format) (x y : Float) → T (finite x) → T (finite y) → Real f x → Real f y
    → T (eq x y) ↔ (over f x + under f y ≡ over f y + under f x)
eq_at f nan _ p q x y = elim p [ ]
eq_at f (inf _) _ p q x y = elim p [ ]
eq_at f (fin s m e) nan p q x y = elim q [ ]
eq_at f (fin s m e) (inf _) p q x y = elim q [ ]
eq_at f (fin s m e) (fin t n d) p q x y = eq_fin f s m e t n d x y

pub lt_iff : {f : Format} {x y : Float} → Real f x → Real f y → T (lt x y) ↔ (over f x + under f y < over f y + under f x)
lt_iff {f} {x} {y} p q = lt_at f x y p.is_finite q.is_finite p q

pub eq_iff : {f : Format} {x y : Float} → Real f x → Real f y → T (eq x y) ↔ (over f x + under f y ≡ over f y + under f x)
eq_iff {f} {x} {y} p q = eq_at f x y p.is_finite q.is_finite p q

pub le_iff : {f : Format} {x y : Float} → Real f x → Real f y → T (le x y) ↔ (over f x + under f y ≤ over f y + under f x)
unfolding le
le_iff {f} {x} {y} p q = (
  λ h. elim (either (lt x y) (eq x y) h) [ inl l ↦ le_of_lt ((lt_iff p q).0 l) | inr e ↦ le_of_eq ((eq_iff p q).0 e) ],
  λ h. elim (eq-or-lt_of_le h) [ inl e ↦ either_right (lt x y) (eq x y) ((eq_iff p q).1 e) | inr l ↦ either_left (lt x y) (eq x y) ((lt_iff p q).1 l) ],
)

-- ---- what follows from the numbers alone

module _ {f : Format} {x : Float} (p : Real f x) where
  pub le_refl : T (le x x)
  le_refl = (le_iff p p).1 (omega arith)

  module _ {y : Float} (q : Real f y) where
    pub lt→le : T (lt x y) → T (le x y)
    lt→le h = (le_iff p q).1 (omega (arith, (lt_iff p q).0 h))

    pub le_antisym : T (le x y) → T (le y x) → T (eq x y)
    le_antisym h k = (eq_iff p q).1 (omega (arith, (le_iff p q).0 h, (le_iff q p).0 k))

    pub not-lt→ge : T (not (lt x y)) → T (le y x)
    not-lt→ge n = (le_iff q p).1 (le_of_not_lt (λ l. T_not (lt x y) n ((lt_iff p q).1 l)))

    module _ {z : Float} (r : Real f z) where
      pub le_trans : T (le x y) → T (le y z) → T (le x z)
      le_trans h k = (le_iff p r).1 (omega (arith, (le_iff p q).0 h, (le_iff q r).0 k))
