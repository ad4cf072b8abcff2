-- Tests by their value, as code hands them on: what `a || b` and `a && b` say of their halves, and what a choice comes to.
-- Assumes nothing.
use mathlib.Core.Bool.{Bool, true, false, ◌&&◌, ◌||◌, cond, true≢false, false≢true}
use mathlib.Core.Path.{◌≡◌, refl}

-- where a disjunction fails, both its halves do
pub neither_left : (a b : Bool) → (a || b) ≡ false → a ≡ false
neither_left true b e = e
neither_left false b e = refl

pub neither_right : (a b : Bool) → (a || b) ≡ false → b ≡ false
neither_right true b e = absurd (true≢false e)
neither_right false b e = e

-- where a disjunction passes, one of its halves does
pub one_passes {ℓ} : {A : Type ℓ} (a b : Bool) → (a || b) ≡ true → (a ≡ true → A) → (b ≡ true → A) → A
one_passes true b e left right = left refl
one_passes false b e left right = right e

-- a disjunction whose first half is known
pub or_found : (a b : Bool) → a ≡ true → true ≡ (a || b)
or_found true b e = refl
or_found false b e = absurd (false≢true e)

pub or_rest : (a b : Bool) → a ≡ false → b ≡ (a || b)
or_rest true b e = absurd (true≢false e)
or_rest false b e = refl

-- where a conjunction passes, both its halves do
pub and_left : (a b : Bool) → (a && b) ≡ true → a ≡ true
and_left true b e = refl
and_left false b e = e

pub and_right : (a b : Bool) → (a && b) ≡ true → b ≡ true
and_right true b e = e
and_right false b e = absurd (false≢true e)

-- where it fails though its first half passes, its second half fails
pub and_fails : (a b : Bool) → (a && b) ≡ false → a ≡ true → b ≡ false
and_fails true b e t = e
and_fails false b e t = absurd (false≢true t)

-- a chain of tests: one that passes decides, one that fails leaves the rest
pub taken {ℓ} : {A : Type ℓ} {a : Bool} {x : A} (y : A) → a ≡ true → x ≡ cond a x y
taken {a = true} y e = refl
taken {a = false} y e = absurd (false≢true e)

pub passed {ℓ} : {A : Type ℓ} {a : Bool} (x : A) {y z : A} → a ≡ false → z ≡ y → z ≡ cond a x y
passed {a = true} x e h = absurd (true≢false e)
passed {a = false} x e h = h
