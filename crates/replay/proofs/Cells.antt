-- A test of places and elements, at some element of a list or at some place below its length.
use Rattle.std.proofs.Common.{◌≡◌, ℕ, zero, suc, ◌+◌, Bool, true, false, ◌||◌, List, [], ◌∷◌, length, get_or, sym, ap, ◌∙◌, refl, arith, zero-add}
use Rattle.std.specs.List.{list_any, enumerate_from}
use Rattle.record.specs.Below.{any_below}

or_assoc : (a b c : Bool) → ((a || b) || c) ≡ (a || (b || c))
or_assoc true b c = refl
or_assoc false b c = refl

-- the first of the numbers apart
any_below-first : (p : ℕ → Bool) (n : ℕ) → any_below p (suc n) ≡ (p 0 || any_below (λ i. p (suc i)) n)
unfolding any_below
any_below-first p zero = elim (p 0) as (λ b. (false || b) ≡ (b || false)) [ true ↦ refl | false ↦ refl ]
any_below-first p (suc n) =
    ap (λ (b : Bool). b || p (suc n)) (any_below-first p n) ∙ or_assoc (p 0) (any_below (λ i. p (suc i)) n) (p (suc n))

any_below-same : (p q : ℕ → Bool) → ((i : ℕ) → p i ≡ q i) → (n : ℕ) → any_below p n ≡ any_below q n
unfolding any_below
any_below-same p q same zero = refl
any_below-same p q same (suc n) =
    ap (λ (b : Bool). b || p n) (any_below-same p q same n) ∙ ap (λ (b : Bool). any_below q n || b) (same n)

any_from :
    {A : Type 0} (test : ℕ → A → Bool) (past : A) (from : ℕ) (xs : List A) →
    list_any (λ (p : ℕ × A). test p.0 p.1) (enumerate_from from xs) ≡ any_below (λ i. test (from + i) (get_or xs i past)) (length xs)
unfolding any_below
any_from test past from [] = refl
any_from {A = A} test past from (x ∷ xs) =
    let wanted : ℕ → Bool = λ i. test (from + i) (get_or {A = A} (x ∷ xs) i past) in
    let here : test from x ≡ wanted 0 = ap (λ (k : ℕ). test k x) (omega arith) in
    let next : (i : ℕ) → test ((from + 1) + i) (get_or xs i past) ≡ wanted (suc i) = λ i. ap (λ (k : ℕ). test k (get_or xs i past)) (omega arith) in
    let rest = any_from test past (from + 1) xs ∙ any_below-same _ (λ i. wanted (suc i)) next (length xs) in
    ap (λ (b : Bool). test from x || b) rest
    ∙ ap (λ (b : Bool). b || any_below (λ i. wanted (suc i)) (length xs)) here
    ∙ sym (any_below-first wanted (length xs))

pub any_enumerated :
    {A : Type 0} (test : ℕ → A → Bool) (past : A) (xs : List A) →
    list_any (λ (p : ℕ × A). test p.0 p.1) (enumerate_from 0 xs) ≡ any_below (λ i. test i (get_or xs i past)) (length xs)
any_enumerated test past xs =
    any_from test past 0 xs
    ∙ any_below-same _ _ (λ i. ap (λ (k : ℕ). test k (get_or xs i past)) (zero-add i)) (length xs)
