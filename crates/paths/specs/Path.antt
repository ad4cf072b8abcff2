-- Paths, which of them a problem admits, and their sums (document 01, "How a path is scored"). A path is plain data that grows
-- at its end, so "each step and the end applied in path order, each addition or subtraction rounded once to f64" is the definition itself.
use Rattle.std.specs.Prelude.{ℕ, zero, suc, ◌<◌, ◌≡◌, List, [], ◌∷◌, ◌++◌, T, Float}
use Rattle.std.specs.Float.{binary64}
use Rattle.std.specs.Float.Ieee.{add, sub, le}
use Rattle.paths.specs.Problem.{Problem}

-- A start at a boundary, then gaps, each to the next boundary, and units, each to the boundary given.
pub data Path : Type 0 where
  begin : ℕ → Path
  gap : Path → Path
  unit : Path → ℕ → Path

-- the boundary where a path stands
unfoldable pub end : Path → ℕ
end (begin j) = j
end (gap p) = suc (end p)
end (unit p j) = j

-- "A path's count is its number of units."
unfoldable pub count : Path → ℕ
count (begin j) = zero
count (gap p) = count p
count (unit p j) = suc (count p)

-- The boundaries where a unit begins and ends.
pub record Bounds : Type 0 where
  pub first : ℕ
  pub last : ℕ

-- The units of a path, "in path order".
unfoldable pub units_of : Path → List Bounds
unfolding end
units_of (begin j) = []
units_of (gap p) = units_of p
units_of (unit p j) = units_of p ++ (record { first = end p; last = j } ∷ [])

-- "A start, then any number of gaps and units, none too, each from where the last step ended [..]; every unit is as the pass's
-- strictness asks, and nothing else is barred."
pub data Admitted (q : Problem) : Path → Type 0 where
  begins : {j : ℕ} → j < q.size → Admitted q (begin j)
  gaps : {p : Path} → Admitted q p → suc (end p) < q.size → Admitted q (gap p)
  units : {p : Path} {j : ℕ} → Admitted q p → end p < j → j < q.size → T (q.unit_ok (end p) j) → Admitted q (unit p j)

-- The start's value with each step applied in path order. "Unit i takes the candidate's i-th column": a unit's number is the count before
-- it.
unfoldable pub value : Problem → Path → Float
unfolding end count
value q (begin j) = q.start j
value q (gap p) = sub binary64 (value q p) (q.gap_cost (end p))
value q (unit p j) = add binary64 (value q p) (q.unit_value (count p) (end p) j)

-- A path's sum: "The end subtracts cost(b, F)."
unfoldable pub sum : Problem → Path → Float
unfolding value end
sum q p = sub binary64 (value q p) (q.stop_cost (end p))

-- Demand 3: "It admits the path chosen, and every other path that it admits for that count has a left-to-right f64 sum at most as
-- large." `le` compares "as numbers: the two zeros are equal".
pub record Best (q : Problem) (k : ℕ) (p : Path) : Type 0 where
  pub admitted : Admitted q p
  pub counted : count p ≡ k
  pub largest : (r : Path) → Admitted q r → count r ≡ k → T (le (sum q r) (sum q p))

-- Demand 3, of one pass: it "admits a path with the candidate's unit count", k;
abbrev pub HasPath : Problem → ℕ → Type 0
HasPath q k = (p : Path) × Admitted q p × (count p ≡ k)

-- "no pass admits a path of that count".
unfoldable pub NoPath : Problem → ℕ → Type 0
NoPath q k = (p : Path) → Admitted q p → count p ≡ k → ⊥
