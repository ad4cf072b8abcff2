-- The results of `add`, `sub` and `mul` at real values: the exact result, rounded once. Here the signs are gone through, once; every law
-- over these results is one of natural numbers. Assumes nothing.
use lib.Ieee.{inf, nan}
use Rattle.std.proofs.Common.{◌≡◌, ℕ, ◌+◌, ◌-◌, ◌*◌, ◌<◌, ◌≤◌, Bool, true, false, cond, not, T, ltb, sym, ap, ◌∙◌, subst, le_of_lt, mul-le-mul_right, zero-lt-suc, mul-pos, le_of_mul-le-mul_right, arith, ltb→lt, nltb→le}
use lib.Ieee.{Float, fin, Format, up, down, unlike, round, neg, sum, add, sub, mul}
use lib.Ieee.Fits.{round-fits}
use lib.Ieee.Scale.{finite, overflow}
use lib.Ieee.Positive.{den_pos}
use Rattle.ieee.specs.Inner.Value.{one, mag, over, under, Real}
use Rattle.ieee.specs.Theory.Rounded.{rounding, Result}
use Rattle.ieee.proofs.Value.{one_pos, exact, neg_real, neg_over, neg_under}
use Rattle.ieee.proofs.Rounding.{round_finite, round_real, round_over, round_under, rounding_same, rounding_zero}

-- ---- `round` with the sign s of a fraction a / d, that is k / c in size, where k is p - n or n - p

parts : (f : Format) (s : Bool) (p n c k : ℕ) → 0 < c → p + cond s k 0 ≡ n + cond s 0 k
    → (rounding f (p - n) c ≡ cond s 0 (rounding f k c)) × (rounding f (n - p) c ≡ cond s (rounding f k c) 0)
parts f false p n c k C z = (ap (λ (j : ℕ). rounding f j c) (omega arith), ap (λ (j : ℕ). rounding f j c) (omega arith) ∙ rounding_zero f c C)
parts f true p n c k C z = (ap (λ (j : ℕ). rounding f j c) (omega arith) ∙ rounding_zero f c C, ap (λ (j : ℕ). rounding f j c) (omega arith))

round_result : (f : Format) (s : Bool) (p n c a d k : ℕ) → 0 < c → 0 < d → a * one f * c ≡ k * d → p + cond s k 0 ≡ n + cond s 0 k
    → Result f (round f s a d) p n c
round_result f s p n c a d k C D e z =
    let same : rounding f (a * one f) d ≡ rounding f k c = rounding_same f (a * one f) d k c D C e in
    let q = parts f s p n c k C z in
    record {
      held = round-fits f s a d;
      above = λ t. round_over f s a d (round_finite f s a d t) ∙ ap (λ (j : ℕ). cond s 0 j) same ∙ sym q.0;
      below = λ t. round_under f s a d (round_finite f s a d t) ∙ ap (λ (j : ℕ). cond s j 0) same ∙ sym q.1;
      reached = λ l m. (round_real f s a d (subst (λ (j : ℕ). j < overflow f) (sym same) (either s q.0 q.1 l m))).is_finite;
    }
  where
    either : (s : Bool) → rounding f (p - n) c ≡ cond s 0 (rounding f k c) → rounding f (n - p) c ≡ cond s (rounding f k c) 0
        → rounding f (p - n) c < overflow f → rounding f (n - p) c < overflow f → rounding f k c < overflow f
    either false i j l m = subst (λ (j : ℕ). j < overflow f) i l
    either true i j l m = subst (λ (j : ℕ). j < overflow f) j m

-- ---- the sum of ±a / d and ±b / d, that are u and v in size

-- the difference of two fractions
rest : (u v w a b g d o : ℕ) → u * d ≡ a * o → v * d ≡ b * o → a ≡ b + g → u ≡ v + w → g * o * 1 ≡ w * d
rest u v w a b g d o p q e h = omega (arith, ap (λ (z : ℕ). z * o) e, ap (λ (z : ℕ). z * d) h)

ordered : (u v a b d o : ℕ) → 0 < d → u * d ≡ a * o → v * d ≡ b * o → b ≤ a → v ≤ u
ordered u v a b d o D p q h = le_of_mul-le-mul_right (omega (arith, mul-le-mul_right o h)) D

module _ (f : Format) (a b d u v : ℕ) (D : 0 < d) (p : u * d ≡ a * one f) (q : v * d ≡ b * one f) where
  total : (a + b) * one f * 1 ≡ (u + v) * d
  total = omega arith

  more_sizes : b ≤ a → v ≤ u
  more_sizes h = ordered u v a b d (one f) D p q h

  more : b ≤ a → (a - b) * one f * 1 ≡ (u - v) * d
  more h = rest u v (u - v) a b (a - b) d (one f) p q (omega arith) (omega (arith, more_sizes h))

  less_sizes : a ≤ b → u ≤ v
  less_sizes h = ordered v u b a d (one f) D q p h

  less : a ≤ b → (b - a) * one f * 1 ≡ (v - u) * d
  less h = rest v u (v - u) b a (b - a) d (one f) q p (omega arith) (omega (arith, less_sizes h))

  at : (s : Bool) (i n c k : ℕ) → c * one f * 1 ≡ k * d → i + cond s k 0 ≡ n + cond s 0 k → Result f (round f s c d) i n 1
  at s i n c k e z = round_result f s i n 1 c d k (zero-lt-suc 0) D e z

  sum_result : (s t : Bool) → Result f (sum f s a t b d) (cond s 0 u + cond t 0 v) (cond s u 0 + cond t v 0) 1
  unfolding sum
  sum_result false false = at false (u + v) 0 (a + b) (u + v) total (omega arith)
  sum_result true true = at true 0 (u + v) (a + b) (u + v) total (omega arith)
  sum_result false true = go (ltb a b) (λ h. le_of_lt (ltb→lt a b h)) (nltb→le a b)
    where
      go : (x : Bool) → (T x → a ≤ b) → (T (not x) → b ≤ a) → Result f (cond x (round f true (b - a) d) (round f false (a - b) d)) (u + 0) (0 + v) 1
      go true l g = at true (u + 0) (0 + v) (b - a) (v - u) (less (l tt)) (omega (arith, less_sizes (l tt)))
      go false l g = at false (u + 0) (0 + v) (a - b) (u - v) (more (g tt)) (omega (arith, more_sizes (g tt)))
  sum_result true false = go (ltb a b) (ltb b a) (λ h. le_of_lt (ltb→lt a b h)) (nltb→le a b) (nltb→le b a)
    where
      go : (x y : Bool) → (T x → a ≤ b) → (T (not x) → b ≤ a) → (T (not y) → a ≤ b)
          → Result f (cond x (round f false (b - a) d) (round f y (a - b) d)) (0 + v) (u + 0) 1
      go true y l g z = at false (0 + v) (u + 0) (b - a) (v - u) (less (l tt)) (omega (arith, less_sizes (l tt)))
      go false true l g z = at true (0 + v) (u + 0) (a - b) (u - v) (more (g tt)) (omega (arith, more_sizes (g tt)))
      go false false l g z = at false (0 + v) (u + 0) (a - b) (u - v) (more (g tt)) (omega (arith, more_sizes (g tt), less_sizes (z tt)))

-- ---- the operations

add_at : (f : Format) (x y : Float) → T (finite x) → T (finite y) → Real f x → Real f y
    → Result f (add f x y) (over f x + over f y) (under f x + under f y) 1
unfolding add over under
add_at f nan _ i j x y = elim i [ ]
add_at f (inf _) _ i j x y = elim i [ ]
add_at f (fin s m e) nan i j x y = elim j [ ]
add_at f (fin s m e) (inf _) i j x y = elim j [ ]
add_at f (fin s m e) (fin t n d) i j x y =
    sum_result f (m * up e * down d) (n * up d * down e) (down e * down d) (mag f (fin s m e)) (mag f (fin t n d))
    (mul-pos (den_pos (fin s m e)) (den_pos (fin t n d))) (omega (arith, ap (λ (z : ℕ). z * down d) (exact x))) (omega (arith, ap (λ (z : ℕ). z * down e) (exact y))) s t

pub add_result : {f : Format} {x y : Float} → Real f x → Real f y → Result f (add f x y) (over f x + over f y) (under f x + under f y) 1
add_result {f} {x} {y} p q = add_at f x y p.is_finite q.is_finite p q

pub sub_result : {f : Format} {x y : Float} → Real f x → Real f y → Result f (sub f x y) (over f x + under f y) (under f x + over f y) 1
unfolding sub
sub_result {f} {x} {y} p q =
    subst (λ (o : ℕ). Result f (add f x (neg y)) (over f x + o) (under f x + over f y) 1) (neg_over f y)
    (subst (λ (o : ℕ). Result f (add f x (neg y)) (over f x + over f (neg y)) (under f x + o) 1) (neg_under f y) (add_result p (neg_real q)))

product : (u v d e a b o : ℕ) → u * d ≡ a * o → v * e ≡ b * o → a * b * o * o ≡ u * v * (d * e)
product u v d e a b o p q = omega (arith, ap (λ (z : ℕ). z * (v * e)) p, ap (λ (z : ℕ). a * o * z) q)

mul_signs : (f : Format) (s t : Bool) (u v a d : ℕ) → 0 < d → a * one f * one f ≡ u * v * d
    → Result f (round f (unlike s t) a d)
    (cond s 0 u * cond t 0 v + cond s u 0 * cond t v 0) (cond s 0 u * cond t v 0 + cond s u 0 * cond t 0 v) (one f)
mul_signs f false false u v a d D e = round_result f false (u * v + 0 * 0) (u * 0 + 0 * v) (one f) a d (u * v) (one_pos f) D e (omega arith)
mul_signs f false true u v a d D e = round_result f true (u * 0 + 0 * v) (u * v + 0 * 0) (one f) a d (u * v) (one_pos f) D e (omega arith)
mul_signs f true false u v a d D e = round_result f true (0 * v + u * 0) (0 * 0 + u * v) (one f) a d (u * v) (one_pos f) D e (omega arith)
mul_signs f true true u v a d D e = round_result f false (0 * 0 + u * v) (0 * v + u * 0) (one f) a d (u * v) (one_pos f) D e (omega arith)

mul_at : (f : Format) (x y : Float) → T (finite x) → T (finite y) → Real f x → Real f y
    → Result f (mul f x y) (over f x * over f y + under f x * under f y) (over f x * under f y + under f x * over f y) (one f)
unfolding mul over under
mul_at f nan _ i j x y = elim i [ ]
mul_at f (inf _) _ i j x y = elim i [ ]
mul_at f (fin s m e) nan i j x y = elim j [ ]
mul_at f (fin s m e) (inf _) i j x y = elim j [ ]
mul_at f (fin s m e) (fin t n d) i j x y =
    mul_signs f s t (mag f (fin s m e)) (mag f (fin t n d)) (m * up e * (n * up d)) (down e * down d)
    (mul-pos (den_pos (fin s m e)) (den_pos (fin t n d)))
    (product (mag f (fin s m e)) (mag f (fin t n d)) (down e) (down d) (m * up e) (n * up d) (one f) (exact x) (exact y))

pub mul_result : {f : Format} {x y : Float} → Real f x → Real f y
    → Result f (mul f x y) (over f x * over f y + under f x * under f y) (over f x * under f y + under f x * over f y) (one f)
mul_result {f} {x} {y} p q = mul_at f x y p.is_finite q.is_finite p q
