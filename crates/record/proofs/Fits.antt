-- What a list of frames, a figure, a table and the speech edges have where their conditions do not hold.
use Prim.Native.Nat.{ℕ, zero, suc, ◌+◌, ◌-◌, ◌*◌, ◌≤◌, ◌<◌}
use mathlib.Core.Bool.{Bool, true, false, not, ◌&&◌, ◌||◌, cond}
use mathlib.Core.List.{List}
use mathlib.Core.Path.{◌≡◌, sym, subst, subst⁻¹}
use mathlib.Core.Logic.{⊎_elim}
use native.Mathlib.Nat.{le_of_suc-le-suc, eq-or-lt_of_le, lt_trans, not-suc-le-zero}
use native.Mathlib.Numerals.{add-one}
use native.Mathlib.Omega.{arith}
use borrow.Author.Tests.{ltb-false, leb-false, not-false}
use lib.Dec.{T, ltb, lit≤}
use lib.ListN.{length, get_or}
use lib.Ieee.{Float, binary32, binary64, of_bits}
use lib.Ieee.Bits.{of_bits-fits}
use Rattle.laws.proofs.Listed.{length_listed, get_d_listed}
use Rattle.laws.proofs.Choices.{neither_left, neither_right}
use Rattle.ieee.specs.Range.{within}
use Rattle.ieee.specs.Inner.Value.{Within}
use Rattle.ieee.proofs.Magnitude.{whole_within, between_within, range_within, neg_within, weaken}
use Rattle.phrase.specs.Phrase.{silent, spoken}
use Rattle.record.specs.Bytes.{u64_at}
use Rattle.limits.specs.Common.{last_frame, shortest_unit, longest_unit, durations, largest_figure, largest_cost, million, thousand}
use Rattle.record.specs.Conditions.{frame_at, late_frame, unordered, bad_list, is_duration, bad_table}
use Rattle.record.specs.Meaning.{frames_at, duration_at}
use Rattle.record.specs.Inner.Accepted.{Frames}
use Rattle.record.specs.declared.layout.Section.{Section}
use Rattle.limits.proofs.Figures.{million_whole}
use Rattle.record.proofs.Below.{none_below}

-- ---- lists of frames

-- what rises at each step rises over any distance
rises : (f : ℕ → ℕ) (n : ℕ) → ((k : ℕ) → k < n → f k < f (k + 1)) → (i j : ℕ) → i < j → j ≤ n → f i < f j
rises f n step i zero l m = absurd (not-suc-le-zero l)
rises f n step i (suc j) l m =
    let here : f j < f (suc j) = subst (λ (k : ℕ). f j < f k) (add-one j) (step j (omega arith)) in
    ⊎_elim (λ (h : i ≡ j). subst⁻¹ (λ (k : ℕ). f k < f (suc j)) h here) (λ (h : i < j). lt_trans (rises f n step i j h (omega arith)) here) (eq-or-lt_of_le (le_of_suc-le-suc l))

module _ (bytes : List ℕ) (s : Section) (fine : bad_list bytes s ≡ false) where
  late_false : late_frame bytes s ≡ false
  late_false = neither_left (late_frame bytes s) (unordered bytes s) fine

  ordered : unordered bytes s ≡ false
  ordered = neither_right (late_frame bytes s) (unordered bytes s) fine

  pub frames_fit : Frames (frames_at bytes s)
  frames_fit =
      let long = length_listed (frame_at bytes s) s.count in
      let at : (i : ℕ) → i < length (frames_at bytes s) → frame_at bytes s i ≡ get_or (frames_at bytes s) i 0 = λ i l. sym (get_d_listed (frame_at bytes s) s.count i 0 (subst (λ (n : ℕ). i < n) long l)) in
      record {
        rising = λ i j l m.
            let up : frame_at bytes s i < frame_at bytes s j = rises (frame_at bytes s) (s.count - 1) (λ k below. leb-false _ _ (none_below _ (s.count - 1) ordered k below)) i j l (omega arith) in
            omega (arith, at i (lt_trans l m), at j m);
        last = λ i l.
            let most : frame_at bytes s i ≤ last_frame = ltb-false _ _ (none_below _ s.count late_false i (subst (λ (n : ℕ). i < n) long l)) in
            omega (arith, at i l);
      }

-- ---- figures

held : (b : Bool) → not b ≡ false → T b
held b e = subst⁻¹ T (not-false b e) tt

million_32_within : Within binary32 million largest_figure
million_32_within = subst (λ (x : Float). Within binary32 x largest_figure) million_whole (whole_within binary32 largest_figure (lit≤ tt))

pub score_fits_law : (p : ℕ) → not (within million (of_bits binary32 p)) ≡ false → Within binary32 (of_bits binary32 p) largest_figure
score_fits_law p e = between_within million_32_within (of_bits binary32 p) (of_bits-fits binary32 p) (held (within million (of_bits binary32 p)) e)

pub cost_fits_law : (p : ℕ) → not (within thousand (of_bits binary64 p)) ≡ false → Within binary64 (of_bits binary64 p) largest_cost
cost_fits_law p e = between_within (whole_within binary64 largest_cost (lit≤ tt)) (of_bits binary64 p) (of_bits-fits binary64 p) (held (within thousand (of_bits binary64 p)) e)

pub duration_fits_law : (p : ℕ) → not (is_duration (of_bits binary64 p)) ≡ false → Within binary64 (of_bits binary64 p) largest_figure
duration_fits_law p e =
    range_within (neg_within (whole_within binary64 largest_figure (lit≤ tt)))
    (weaken largest_figure (lit≤ tt) (whole_within binary64 0 (lit≤ tt)))
    (of_bits binary64 p) (of_bits-fits binary64 p) (held (is_duration (of_bits binary64 p)) e)

-- an entry of a table by its number of frames
pub table_fits : (bytes : List ℕ) (table : ℕ) → bad_table bytes table ≡ false → (frames : ℕ) → shortest_unit ≤ frames → frames ≤ longest_unit → Within binary64 (duration_at bytes table frames) largest_figure
table_fits bytes table e frames least most = duration_fits_law (u64_at bytes (table + 8 * (frames - shortest_unit))) (none_below _ durations e (frames - shortest_unit) (omega arith))

-- ---- speech

pub edges_fit : (both : Bool) (start end a b : ℕ) → (not both && (ltb end start || ltb last_frame end)) ≡ false → cond both silent (spoken start end) ≡ spoken a b → (a ≤ b) × (b ≤ last_frame)
edges_fit true start end a b e h = let no : ◌≡◌ {A = ℕ} 0 1 = cc in let never : ⊥ = omega arith in absurd never
edges_fit false start end a b e h =
    let first : start ≡ a = cc in
    let second : end ≡ b = cc in
    let order : start ≤ end = ltb-false _ _ (neither_left (ltb end start) (ltb last_frame end) e) in
    let last : end ≤ last_frame = ltb-false _ _ (neither_right (ltb end start) (ltb last_frame end) e) in
    (omega arith, omega arith)

-- ---- scores
