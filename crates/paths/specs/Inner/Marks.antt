-- What the two work areas keep in place of paths, and the units that their marks lead back to.
use Rattle.std.specs.Prelude.{ℕ, suc, ◌+◌, ◌<◌, ◌≡◌, List, [], ◌∷◌, ◌++◌, Float}
use Rattle.std.specs.Float.{binary64}
use Rattle.std.specs.Float.Ieee.{add, sub, lt}
use Rattle.paths.specs.Problem.{Problem}
use Rattle.paths.specs.Path.{Path, begin, gap, unit, end, value, sum, Bounds}
use Rattle.paths.specs.Cell.{Cell, empty, held, best, carry}
use Rattle.paths.specs.CellRule.{Keeping}

-- A path's value and how it was reached: 1 a start, 2 a gap, 3 + i a unit from boundary i.
pub record Marked : Type 0 where
  pub value : Float
  pub mark : ℕ

unfoldable pub mark_of : Path → ℕ
unfolding end
mark_of (begin j) = 1
mark_of (gap p) = 2
mark_of (unit p j) = 3 + end p

abbrev pub marked : Problem → Path → Marked
marked q p = record { value = value q p; mark = mark_of p }

-- the mark of a cell in the work area: 0 where nothing reached it
unfoldable pub mark_at : Cell Marked → ℕ
mark_at empty = 0
mark_at (held a) = a.mark

-- The rows as the code fills them are `rows q (marks q)`.
unfoldable pub marks : Problem → Keeping Marked
marks q = record {
  less = λ a b. lt a.value b.value;
  fresh = λ j. record { value = q.start j; mark = 1 };
  over_gap = λ i a. record { value = sub binary64 a.value (q.gap_cost i); mark = 2 };
  over_unit = λ s i j a. record { value = add binary64 a.value (q.unit_value s i j); mark = 3 + i };
}

-- A sum and the boundary where its path ends.
pub record End : Type 0 where
  pub sum : Float
  pub at : ℕ

abbrev pub ended : Problem → Path → End
ended q p = record { sum = sum q p; at = end p }

-- The end chosen over a row of values and marks.
unfoldable pub chosen_end : Problem → (ℕ → Cell Marked) → Cell End
unfolding best carry
chosen_end q row =
    best (λ a b. lt a.sum b.sum) q.size
    (λ j. carry (λ a. record { sum = sub binary64 a.value (q.stop_cost j); at = j }) (row j))

-- What the marks lead back to from the cell of s units and boundary j: the units of a path, in path order. `mark s j` is that cell's.
pub data Traces (mark : ℕ → ℕ → ℕ) : ℕ → ℕ → List Bounds → Type 0 where
  started : {j : ℕ} → mark 0 j ≡ 1 → Traces mark 0 j []
  crossed : {s j : ℕ} {units : List Bounds} → mark s (suc j) ≡ 2 → Traces mark s j units → Traces mark s (suc j) units
  united :
      {s i j : ℕ} {units : List Bounds} →
      i < j → mark (suc s) j ≡ 3 + i → Traces mark s i units → Traces mark (suc s) j (units ++ (record { first = i; last = j } ∷ []))
