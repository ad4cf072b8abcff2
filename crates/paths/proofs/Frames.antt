-- Frames in increasing order, and speech counts: they add up over neighbouring stretches, and never pass the mask's length.
-- Assumes nothing.
use mathlib.Core.Path.{◌≡◌, sym, ap, ◌∙◌}
use mathlib.Core.List.{List}
use Prim.Native.Nat.{ℕ, zero, suc, ◌+◌, ◌-◌, ◌≤◌, ◌<◌, min}
use native.Mathlib.Nat.{add-zero, add-suc, add_assoc, le_trans, le_refl, le_of_lt, add-sub_of_le}
use native.Mathlib.Decide.{le_ind}
use native.Mathlib.Omega.{arith}
use lib.Dec.{eqb}
use lib.ListN.{length, get_or}
use Rattle.laws.proofs.Tests.{by_choice}
use Rattle.paths.specs.Frames.{weight, speech_from, speech_in}
use Rattle.paths.specs.Inner.Order.{Increasing}

-- a list in increasing order, at any two places
pub increasing_le : (frames : List ℕ) → Increasing frames → (i j : ℕ) → i ≤ j → j < length frames → get_or frames i 0 ≤ get_or frames j 0
increasing_le frames increasing i j h =
    le_ind (λ (k : ℕ). k < length frames → get_or frames i 0 ≤ get_or frames k 0) (λ k. le_refl (get_or frames i 0))
    (λ m g rest more. le_trans (rest (omega arith)) (le_of_lt (increasing m more))) j h

pub weight_le : (byte : ℕ) → weight byte ≤ 1
unfolding weight
weight_le byte = by_choice (λ (n : ℕ). n ≤ 1) (eqb byte 0) (λ t. omega arith) (λ t. omega arith)

pub speech_from_le : (mask : List ℕ) (from n : ℕ) → speech_from mask from n ≤ n
unfolding speech_from
speech_from_le mask from zero = le_refl 0
speech_from_le mask from (suc n) = omega (arith, speech_from_le mask from n, weight_le (get_or mask (from + n) 0))

pub speech_from_split : (mask : List ℕ) (from m n : ℕ) → speech_from mask from (m + n) ≡ speech_from mask from m + speech_from mask (from + m) n
unfolding speech_from
speech_from_split mask from m zero = ap (speech_from mask from) (add-zero m) ∙ sym (add-zero (speech_from mask from m))
speech_from_split mask from m (suc n) = rw (add-suc m n, speech_from_split mask from m n, add_assoc from m n) (add_assoc _ _ _)

pub speech_in_le : (mask : List ℕ) (from to : ℕ) → speech_in mask from to ≤ length mask
unfolding speech_in
speech_in_le mask from to =
    le_trans (speech_from_le mask (min from (length mask)) (min to (length mask) - min from (length mask))) (omega arith)

-- in order as far as the mask goes
pub speech_in_split : (mask : List ℕ) (from mid to : ℕ)
    → min from (length mask) ≤ min mid (length mask) → min mid (length mask) ≤ min to (length mask)
    → speech_in mask from to ≡ speech_in mask from mid + speech_in mask mid to
unfolding speech_in
speech_in_split mask from mid to h k =
    let a : ℕ = min from (length mask) in
    let b : ℕ = min mid (length mask) in
    let c : ℕ = min to (length mask) in
    let step : c - a ≡ (b - a) + (c - b) = omega arith in
    let at : a + (b - a) ≡ b = add-sub_of_le h in
    ap (speech_from mask a) step ∙ speech_from_split mask a (b - a) (c - b)
    ∙ ap (λ (x : ℕ). speech_from mask a (b - a) + speech_from mask x (c - b)) at
