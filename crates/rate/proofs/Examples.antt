-- Document 01's worked examples of the rate ("Proved as a group"), and places of gaps.
use Prim.Native.Nat.{ℕ, zero, suc, ◌-◌, ◌/◌, ◌%◌, min, max}
use mathlib.Core.Bool.{Bool, true, false, cond}
use mathlib.Core.Path.{◌≡◌, refl, ap, ap₂, ◌∙◌}
use mathlib.Core.List.{List, [], ◌∷◌}
use native.Mathlib.Nat.{sub_self}
use native.Mathlib.Omega.{arith}
use lib.Dec.{ltb, eqb}
use lib.Ieee.{Float, binary64, add, mul, lt, of_int, of_bits}
use lib.ListN.{length, replicate}
use Rattle.rate.specs.Rate.{insert, sorted, gaps_after, below, stands_at, first_at, at_place, counted, half, frame_seconds, nought, median, positive_or, rate}

-- "frames 10, 30, 60 give rate 0.25", whatever the default
pub rate_of_three : (default : Float) → rate (10 ∷ 30 ∷ 60 ∷ []) default ≡ of_bits binary64 0x3fd0_0000_0000_0000
unfolding rate median sorted insert gaps_after first_at below add mul lt of_int of_bits
rate_of_three default = refl

-- "equal frames give the default": their gaps are all 0, and so is the gap at every place
module _ (f : ℕ) where
  insert_equal : (n : ℕ) → insert f (replicate n f) ≡ f ∷ replicate n f
  unfolding insert
  insert_equal zero = refl
  insert_equal (suc n) =
      let low : min f f ≡ f = omega arith in
      let high : max f f ≡ f = omega arith in
      ap₂ (λ x y. x ∷ insert y (replicate n f)) low high ∙ ap (λ l. f ∷ l) (insert_equal n)

  sorted_equal : (n : ℕ) → sorted (replicate n f) ≡ replicate n f
  unfolding sorted
  sorted_equal zero = refl
  sorted_equal (suc n) = ap (insert f) (sorted_equal n) ∙ insert_equal n

  gaps_equal : (n : ℕ) → gaps_after f (replicate n f) ≡ replicate n 0
  unfolding gaps_after
  gaps_equal zero = refl
  gaps_equal (suc n) = ap₂ (λ x l. x ∷ l) (sub_self f) (gaps_equal n)

first_zero : (all : List ℕ) (place n : ℕ) → first_at all place (replicate n 0) ≡ 0
unfolding first_at
first_zero all place zero = refl
first_zero all place (suc n) = go (stands_at all place 0) (first_zero all place n)
  where
    go : (b : Bool) {k : ℕ} → k ≡ 0 → cond b 0 k ≡ 0
    go true e = refl
    go false e = e

median_zero : (n : ℕ) → median (replicate n 0) ≡ nought
unfolding median add mul of_int of_bits
median_zero n =
    let zeros : List ℕ = replicate n 0 in
    let middle = length zeros / 2 in
    rw (first_zero zeros middle n, first_zero zeros (middle - 1) n) (go (eqb (length zeros % 2) 1))
  where
    go : (b : Bool) → cond b (counted 0) (mul binary64 half (add binary64 (counted 0) (counted 0))) ≡ nought
    go true = refl
    go false = refl

pub equal_frames : (n f : ℕ) (default : Float) → rate (replicate n f) default ≡ default
unfolding rate mul lt of_bits
equal_frames zero f default = refl
equal_frames (suc n) f default =
    rw (sorted_equal f (suc n), gaps_equal f n, median_zero n) (go (ltb (length (replicate (suc n) f)) 2))
  where
    go : (b : Bool) → cond b default (positive_or default (mul binary64 nought frame_seconds)) ≡ default
    go true = refl
    go false = refl

-- of gaps 30, 10, 30 and 20 the middle two, at places 1 and 2, are 20 and 30, and the last place has the second 30
abbrev four : List ℕ
four = 30 ∷ 10 ∷ 30 ∷ 20 ∷ []

pub places_of_four : (at_place four 1 ≡ 20) × (at_place four 2 ≡ 30) × (at_place four 3 ≡ 30)
unfolding first_at below
places_of_four = (refl, refl, refl)

-- frames 70, 0, 90, 30 and 40 have those gaps when sorted, and half of 20 and 30 is 25 frames
pub rate_of_five : (default : Float) → rate (70 ∷ 0 ∷ 90 ∷ 30 ∷ 40 ∷ []) default ≡ of_bits binary64 0x3fd0_0000_0000_0000
unfolding rate median sorted insert gaps_after first_at below add mul lt of_int of_bits
rate_of_five default = refl
