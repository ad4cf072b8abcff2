-- The number of a value (`total_key`) grows exactly along the total order of values that are no NaN, in any format.
use Rattle.std.proofs.Common.{◌≡◌, ℕ, zero, suc, ◌+◌, ◌-◌, ◌*◌, ◌<◌, ◌≤◌, Bool, true, false, cond, not, ◌&&◌, ◌||◌, T, eqb, ltb, sym, refl, ap, ◌∙◌, ap₂, arith, ltb→lt, nltb→le, le-ltb, lt-ltb}
use lib.Ieee.{Float, nan, inf, fin, Format, up, down, lt, eq, is_nan, top, to_bits}
use Rattle.ieee.specs.TotalOrder.{negative, total_before}
use Rattle.ieee.specs.Inner.Keys.{Comparable, key_of_bits, total_key}
use Rattle.ieee.proofs.TotalOrderMagnitude.{bare, to_bits_sign, bare_lt, same_bits, magnitude_order}

-- ---- the order by the two signs: a is whether x is the smaller in size, b whether y is
by_sign : Bool → Bool → Bool → Bool → Bool
by_sign false false a b = a
by_sign false true a b = false
by_sign true false a b = true
by_sign true true a b = b

or_false : (b : Bool) → (b || false) ≡ b
or_false true = refl
or_false false = refl

-- a negative number is before a positive one, also where both are zero
across : (a b : ℕ) → (ltb 0 (a + b) || (eqb a b && (false || eqb a 0))) ≡ true
across zero zero = refl
across zero (suc b) = ap (λ (t : Bool). t || (eqb 0 (suc b) && true)) (lt-ltb 0 (0 + suc b) (omega arith))
across (suc a) b = ap (λ (t : Bool). t || (eqb (suc a) b && eqb (suc a) 0)) (lt-ltb 0 (suc a + b) (omega arith))

before_by_sign : (x y : Float) → T (not (is_nan x)) → T (not (is_nan y)) → total_before x y ≡ by_sign (negative x) (negative y) (lt (bare x) (bare y)) (lt (bare y) (bare x))
unfolding total_before by_sign lt eq is_nan
before_by_sign nan y h k = absurd h
before_by_sign (inf s) nan h k = absurd k
before_by_sign (inf false) (inf false) h k = refl
before_by_sign (inf false) (inf true) h k = refl
before_by_sign (inf true) (inf false) h k = refl
before_by_sign (inf true) (inf true) h k = refl
before_by_sign (inf false) (fin false n d) h k = refl
before_by_sign (inf false) (fin true n d) h k = refl
before_by_sign (inf true) (fin false n d) h k = refl
before_by_sign (inf true) (fin true n d) h k = refl
before_by_sign (fin s m e) nan h k = absurd k
before_by_sign (fin false m e) (inf false) h k = refl
before_by_sign (fin false m e) (inf true) h k = refl
before_by_sign (fin true m e) (inf false) h k = refl
before_by_sign (fin true m e) (inf true) h k = refl
before_by_sign (fin false m e) (fin false n d) h k = or_false (ltb (m * up e * down d) (n * up d * down e))
before_by_sign (fin false m e) (fin true n d) h k = refl
before_by_sign (fin true m e) (fin false n d) h k = across (m * up e * down d) (n * up d * down e)
before_by_sign (fin true m e) (fin true n d) h k = or_false (ltb (n * up d * down e) (m * up e * down d))

-- ---- the key by the sign, with t the sign's weight and a, b what is left of the patterns
key : ℕ → Bool → ℕ → ℕ
key t s a = cond s (t - 1 - a) (t + a)

key_of : (t n a : ℕ) (s : Bool) → n ≡ cond s t 0 + a → a < t → cond (ltb n t) (n + t) (2 * t - 1 - n) ≡ key t s a
unfolding key
key_of t n a true e h = ap (λ (b : Bool). cond b (n + t) (2 * t - 1 - n)) (le-ltb n t (omega arith)) ∙ omega arith
key_of t n a false e h = ap (λ (b : Bool). cond b (n + t) (2 * t - 1 - n)) (lt-ltb n t (omega arith)) ∙ omega arith

key_is : (f : Format) (x : Float) → Comparable f x → total_key f x ≡ key (top f) (negative x) (to_bits f (bare x))
unfolding key_of_bits
key_is f x v = key_of (top f) (to_bits f x) (to_bits f (bare x)) (negative x) (to_bits_sign f x v.number) (bare_lt f x v)

same_test : (a b c d : ℕ) → (a < b → c < d) → (b ≤ a → d ≤ c) → ltb c d ≡ ltb a b
same_test a b c d p q = go (ltb a b) (ltb→lt a b) (nltb→le a b)
  where
    go : (t : Bool) → (T t → a < b) → (T (not t) → b ≤ a) → ltb c d ≡ t
    go true h k = lt-ltb c d (p (h tt))
    go false h k = le-ltb c d (q (k tt))

keys : (t a b : ℕ) (s r : Bool) → a < t → b < t → ltb (key t s a) (key t r b) ≡ by_sign s r (ltb a b) (ltb b a)
unfolding key by_sign
keys t a b false false h k = same_test a b (t + a) (t + b) (λ l. omega arith) (λ l. omega arith)
keys t a b false true h k = le-ltb (t + a) (t - 1 - b) (omega arith)
keys t a b true false h k = lt-ltb (t - 1 - a) (t + b) (omega arith)
keys t a b true true h k = same_test b a (t - 1 - a) (t - 1 - b) (λ l. omega arith) (λ l. omega arith)

key_injective : (t a b : ℕ) (s r : Bool) → a < t → b < t → key t s a ≡ key t r b → cond s t 0 + a ≡ cond r t 0 + b
unfolding key
key_injective t a b false false h k e = omega arith
key_injective t a b false true h k e = omega arith
key_injective t a b true false h k e = omega arith
key_injective t a b true true h k e = omega arith

-- ---- comparing keys is comparing values, and equal keys are equal values
module _ (f : Format) (x y : Float) (v : Comparable f x) (w : Comparable f y) where
  pub key_before : ltb (total_key f x) (total_key f y) ≡ total_before x y
  key_before =
      let a = to_bits f (bare x) in
      let b = to_bits f (bare y) in
      ap₂ ltb (key_is f x v) (key_is f y w)
      ∙ keys (top f) a b (negative x) (negative y) (bare_lt f x v) (bare_lt f y w)
      ∙ ap₂ (by_sign (negative x) (negative y)) (magnitude_order f x y v w) (magnitude_order f y x w v)
      ∙ sym (before_by_sign x y v.number w.number)

  pub key_same : total_key f x ≡ total_key f y → x ≡ y
  key_same e =
      same_bits f x y v.held w.held
      (to_bits_sign f x v.number
      ∙ key_injective (top f) (to_bits f (bare x)) (to_bits f (bare y)) (negative x) (negative y) (bare_lt f x v) (bare_lt f y w) (sym (key_is f x v) ∙ e ∙ key_is f y w)
      ∙ sym (to_bits_sign f y w.number))
