-- Range tests on patterns are the IEEE range tests on their values. Assumes nothing.
use Rattle.std.proofs.Common.{◌≡◌, ℕ, ◌+◌, ◌*◌, ◌%◌, ◌<◌, ◌≤◌, Bool, true, false, cond, ◌&&◌, ◌||◌, T, eqb, leb, refl, ◌∙◌, subst, inl, inr, lt_of_le_of_lt, mul-pos, arith, le→leb, eqb→eq, leb→le}
use lib.Arith.{le-zero}
use lib.Ieee.{Float, nan, inf, fin, Format, low, neg, le, hid, ones, top, of_bits, is_nan}
use lib.Ieee.Fits.{and_i, and_l, and_r, eq→eqb}
use lib.Ieee.Bits.{nan_bits_is}
use Rattle.ieee.specs.Inner.Value.{mag, over, under}
use Rattle.ieee.specs.Range.{between, within}
use Rattle.ieee.specs.Inner.Ranges.{RangeTest}
use Rattle.laws.proofs.Tests.{either, either_left, either_right, same_test}
use Rattle.ieee.proofs.Value.{neg_real}
use Rattle.ieee.proofs.Magnitude.{between_finite}
use Rattle.ieee.proofs.Pattern.{hid_pos, finite_pattern, pattern_real, pattern_over, pattern_under, limit_real, at_least, at_most, pattern_le}

-- ---- range tests on patterns

-- from the negative of one limit up to another: the sign says which of them counts
module _ (f : Format) (k h : ℕ) (p : k < ones f * hid f) (q : h < ones f * hid f) (b : ℕ) where
  pub pattern_between : cond (leb (top f) b) (leb (b % top f) k) (leb (b % top f) h) ≡ between (neg (of_bits f k)) (of_bits f h) (of_bits f b)
  pattern_between =
      same_test (cond (leb (top f) b) (leb r k) (leb r h)) (le lo x && le x hi)
      (into (leb (top f) b) (pattern_over f b) (pattern_under f b)) out
    where
      r : ℕ
      r = b % top f

      lo : Float
      lo = neg (of_bits f k)

      hi : Float
      hi = of_bits f h

      x : Float
      x = of_bits f b

      into : (s : Bool) → (r < ones f * hid f → over f x ≡ cond s 0 (mag f x)) → (r < ones f * hid f → under f x ≡ cond s (mag f x) 0)
          → T (cond s (leb r k) (leb r h)) → T (le lo x && le x hi)
      into true o u t =
          let l : r ≤ k = leb→le r k t in
          let fine : r < ones f * hid f = lt_of_le_of_lt l p in
          let v = pattern_real f b fine in
          and_i (le lo x) (le x hi) ((at_least f k p v).1 (omega (arith, (pattern_le f k p b fine).0 l, u fine)))
          ((at_most f h q v).1 (omega (arith, o fine)))
      into false o u t =
          let l : r ≤ h = leb→le r h t in
          let fine : r < ones f * hid f = lt_of_le_of_lt l q in
          let v = pattern_real f b fine in
          and_i (le lo x) (le x hi) ((at_least f k p v).1 (omega (arith, u fine)))
          ((at_most f h q v).1 (omega (arith, (pattern_le f h q b fine).0 l, o fine)))

      out : T (le lo x && le x hi) → T (cond (leb (top f) b) (leb r k) (leb r h))
      out t =
          let above : T (le lo x) = and_l (le lo x) (le x hi) t in
          let below : T (le x hi) = and_r (le lo x) (le x hi) t in
          let fine : r < ones f * hid f =
          finite_pattern f b (between_finite lo hi x (neg_real (limit_real f k p)).is_finite (limit_real f h q).is_finite above below) in
          let v = pattern_real f b fine in
          sort (leb (top f) b) (pattern_over f b fine) (pattern_under f b fine) ((at_least f k p v).0 above) ((at_most f h q v).0 below) fine
        where
          sort : (s : Bool) → over f x ≡ cond s 0 (mag f x) → under f x ≡ cond s (mag f x) 0
              → under f x ≤ over f x + mag f (of_bits f k) → over f x ≤ under f x + mag f (of_bits f h) → r < ones f * hid f
              → T (cond s (leb r k) (leb r h))
          sort true o u low high fine = le→leb r k ((pattern_le f k p b fine).1 (omega arith))
          sort false o u low high fine = le→leb r h ((pattern_le f h q b fine).1 (omega arith))

zero_finite : (f : Format) → 0 < ones f * hid f
zero_finite f = mul-pos {m = ones f} (omega arith) (hid_pos f)

either_way : (s a : Bool) → a ≡ cond s a a
either_way true a = refl
either_way false a = refl

up_to_zero : (s : Bool) (r k : ℕ) → (eqb r 0 || (s && leb r k)) ≡ cond s (leb r k) (leb r 0)
up_to_zero s r k = same_test (eqb r 0 || (s && leb r k)) (cond s (leb r k) (leb r 0)) (into s) (out s)
  where
    into : (s : Bool) → T (eqb r 0 || (s && leb r k)) → T (cond s (leb r k) (leb r 0))
    into true t = elim (either (eqb r 0) (leb r k) t) [ inl z ↦ le→leb r k (omega (arith, eqb→eq r 0 z)) | inr l ↦ l ]
    into false t = elim (either (eqb r 0) false t) [ inl z ↦ le→leb r 0 (omega (arith, eqb→eq r 0 z)) | inr l ↦ absurd l ]

    out : (s : Bool) → T (cond s (leb r k) (leb r 0)) → T (eqb r 0 || (s && leb r k))
    out true t = either_right (eqb r 0) (leb r k) t
    out false t = either_left (eqb r 0) false (eq→eqb {a = r} {b = 0} (le-zero (leb→le r 0 t)))

module _ (f : Format) (k : ℕ) (l : k < ones f * hid f) (b : ℕ) where
  pub pattern_within : leb (b % top f) k ≡ within (of_bits f k) (of_bits f b)
  pattern_within = either_way (leb (top f) b) (leb (b % top f) k) ∙ pattern_between f k k l l b

  -- from the negative of the limit up to either zero
  pub pattern_nonpositive : (eqb (b % top f) 0 || (leb (top f) b && leb (b % top f) k)) ≡ between (neg (of_bits f k)) (of_bits f 0) (of_bits f b)
  pattern_nonpositive = up_to_zero (leb (top f) b) (b % top f) k ∙ pattern_between f k 0 l (zero_finite f) b

-- ---- the same as promises of a test on bits

le_no_nan : (x y : Float) → T (le x y) → is_nan y ≡ false
unfolding le is_nan
le_no_nan nan nan h = absurd h
le_no_nan (inf s) nan h = absurd h
le_no_nan (fin s m e) nan h = absurd h
le_no_nan x (inf t) h = refl
le_no_nan x (fin t n d) h = refl

range_test : (f : Format) (lo hi : Float) (bits : ℕ) (r : Bool) → r ≡ between lo hi (of_bits f bits) → RangeTest f (between lo hi) bits r
range_test f lo hi bits r e = record {
  answer = e;
  not_nan = λ t. nan_bits_is f bits ∙ le_no_nan lo (of_bits f bits) (and_l (le lo (of_bits f bits)) (le (of_bits f bits) hi) (subst T e t));
}

module _ (f : Format) (k : ℕ) (l : k < ones f * hid f) (b : ℕ) where
  pub within_test : RangeTest f (within (of_bits f k)) b (leb (b % top f) k)
  within_test = range_test f (neg (of_bits f k)) (of_bits f k) b (leb (b % top f) k) (pattern_within f k l b)

  pub nonpositive_test : RangeTest f (between (neg (of_bits f k)) (of_bits f 0)) b (eqb (b % top f) 0 || (leb (top f) b && leb (b % top f) k))
  nonpositive_test =
      range_test f (neg (of_bits f k)) (of_bits f 0) b (eqb (b % top f) 0 || (leb (top f) b && leb (b % top f) k))
      (pattern_nonpositive f k l b)
