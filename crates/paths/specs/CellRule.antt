-- The cell rule (document 01, "How a path is scored"): "A way into a cell (units so far, boundary) is a start, a gap or a unit, each
-- with its own f64 value. Start comes first, then units from the lowest origin up, then the gap; a later way replaces only when
-- strictly greater. Of equal ends the lowest boundary wins."
use Rattle.std.specs.Prelude.{ℕ, zero, suc, Bool}
use Rattle.std.specs.Float.Ieee.{lt}
use Rattle.paths.specs.Problem.{Problem}
use Rattle.paths.specs.Path.{Path, begin, gap, unit, value, sum}
use Rattle.paths.specs.Cell.{Cell, held, keep, best, carry, only}

-- What a search keeps of the path in a cell: how two compare, what a start at boundary j gives, and what is made of it by the gap
-- from boundary i and by unit s (counted from 0) from boundary i to boundary j.
pub record Keeping (A : Type 0) : Type 0 where
  pub less : A → A → Bool
  pub fresh : ℕ → A
  pub over_gap : ℕ → A → A
  pub over_unit : ℕ → ℕ → ℕ → A → A

-- A row has the cell of each boundary. The gap comes last, so a row is what else arrives at its boundaries, swept by gaps.
unfoldable pub sweep : {A : Type 0} → Keeping A → (ℕ → Cell A) → ℕ → Cell A
unfolding keep carry
sweep kept arrived zero = arrived zero
sweep kept arrived (suc j) = keep kept.less (arrived (suc j)) (carry (kept.over_gap j) (sweep kept arrived j))

-- The way into boundary j by unit s from boundary i, over the row of s units.
unfoldable pub arrival : {A : Type 0} → Problem → Keeping A → ℕ → (ℕ → Cell A) → ℕ → ℕ → Cell A
unfolding only carry
arrival q kept s row j i = only (q.unit_ok i j) (carry (kept.over_unit s i j) (row i))

-- The row of each count of units: the starts or, for s + 1 units, the units from the row before, lowest origin first; then the gaps.
unfoldable pub rows : {A : Type 0} → Problem → Keeping A → ℕ → ℕ → Cell A
unfolding sweep arrival best
rows q kept zero = sweep kept (λ j. held (kept.fresh j))
rows q kept (suc s) = sweep kept (λ j. best kept.less j (arrival q kept s (rows q kept s) j))

-- Whole paths, compared by value.
unfoldable pub paths : Problem → Keeping Path
unfolding value
paths q = record {
  less = λ p r. lt (value q p) (value q r);
  fresh = begin;
  over_gap = λ i. gap;
  over_unit = λ s i j p. unit p j;
}

-- The path chosen for a count of k units, or none: of the last row's cells the one with the largest sum, the lowest boundary first.
unfoldable pub chosen_path : Problem → ℕ → Cell Path
unfolding rows paths best sum
chosen_path q k = best (λ p r. lt (sum q p) (sum q r)) q.size (rows q (paths q) k)
