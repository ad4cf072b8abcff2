-- Lists by their entries, and what an array of a fixed size holds: a list, then a spare value or what stood there.
use Rattle.std.specs.Prelude.{ℕ, zero, suc, List, [], ◌∷◌}

-- the values of a function at the first n numbers
unfoldable pub listed {ℓ} : {A : Type ℓ} → (ℕ → A) → ℕ → List A
listed f zero = []
listed f (suc n) = f zero ∷ listed (λ i. f (suc i)) n
