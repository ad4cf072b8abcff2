-- The unit counts of the paths that a problem admits: with a count every smaller one, and which they are by the first boundary that each
-- reaches. Assumes nothing.
use Prim.Native.Nat.{ℕ, zero, suc, ◌+◌, ◌-◌, ◌≤◌, ◌<◌}
use native.Mathlib.Omega.{arith}
use mathlib.Core.Path.{◌≡◌, refl, ap, ◌∙◌}
use borrow.Author.Tests.{lt-ltb}
use Rattle.paths.specs.Problem.{Problem}
use Rattle.paths.specs.Path.{Path, begin, gap, end, count, Admitted, begins, gaps, units, HasPath, NoPath}
use Rattle.paths.specs.CellRule.{chosen_path}
use Rattle.paths.specs.Inner.Ranges.{Origins, first_reached}
use Rattle.paths.proofs.PathRoutes.{end_inside}
use Rattle.paths.proofs.Chosen.{chosen_admitted, chosen_count, none_chosen as nothing-there}
use Rattle.paths.proofs.Reached.{held_is, chosen_reach, none_chosen}

-- ---- a unit can always be replaced by the gaps under it

-- a path with so many gaps behind it
crossed : Path → ℕ → Path
crossed p zero = p
crossed p (suc n) = gap (crossed p n)

crossed_end : (p : Path) (n : ℕ) → end (crossed p n) ≡ n + end p
unfolding end crossed
crossed_end p zero = omega arith
crossed_end p (suc n) = omega (arith, crossed_end p n)

crossed_count : (p : Path) (n : ℕ) → count (crossed p n) ≡ count p
unfolding count crossed
crossed_count p zero = refl
crossed_count p (suc n) = crossed_count p n

module _ (q : Problem) where
  crossed_admitted : {p : Path} → Admitted q p → (n : ℕ) → n + end p < q.size → Admitted q (crossed p n)
  unfolding crossed
  crossed_admitted a zero h = a
  crossed_admitted {p} a (suc n) h = gaps (crossed_admitted a n (omega arith)) (omega (arith, crossed_end p n))

  -- an admitted path to a boundary with so many units
  Leads : ℕ → ℕ → Type 0
  Leads j k = (p : Path) × Admitted q p × (end p ≡ j) × (count p ≡ k)

  one_fewer : {p : Path} → Admitted q p → (k : ℕ) → count p ≡ suc k → Leads (end p) k
  unfolding count end Leads
  one_fewer (begins l) k e = absurd (omega arith)
  one_fewer (gaps {p = p} a l) k e =
      let less = one_fewer a k e in
      (gap less.0, gaps less.1 (omega (arith, less.2)), ap suc less.2, less.3)
  one_fewer (units {p = p} {j = j} a h l ok) k e =
      let by : ℕ = j - end p in
      (crossed p by, crossed_admitted a by (omega arith), omega (arith, crossed_end p by), omega (arith, crossed_count p by))

  -- "Every smaller count is also admitted."
  pub fewer : (k m : ℕ) → k ≤ m → HasPath q m → HasPath q k
  unfolding Leads
  fewer k m h path = go (m - k) path.0 path.1 (omega (arith, path.2))
    where
      go : (by : ℕ) (p : Path) → Admitted q p → count p ≡ by + k → HasPath q k
      go zero p a e = (p, a, omega arith)
      go (suc by) p a e = let less = one_fewer a (by + k) (omega arith) in go by less.0 less.1 less.3

  -- ---- which counts there are

  -- each unit goes on by a boundary at least, so that there are fewer units than boundaries
  pub fewer_than_boundaries : {p : Path} → Admitted q p → count p < q.size
  unfolding count end
  fewer_than_boundaries a = omega (arith, within a, end_inside a)
    where
      within : {p : Path} → Admitted q p → count p ≤ end p
      within (begins l) = omega arith
      within (gaps a l) = omega (arith, within a)
      within (units a h l ok) = omega (arith, within a)

  -- a path of no units is there exactly where there is a boundary
  pub some_path : {k : ℕ} → HasPath q k → 0 < q.size
  some_path path = go path.1
    where
      go : {p : Path} → Admitted q p → 0 < q.size
      go (begins l) = omega arith
      go (gaps a l) = omega arith
      go (units a h l ok) = omega arith

  pub bare_path : 0 < q.size → HasPath q 0
  unfolding count
  bare_path some = (begin 0, begins some, refl)

  module _ {low end : ℕ → ℕ} (origins : Origins q.unit_ok q.size low end) where
    -- a count is there exactly where the first boundary that it reaches is one
    pub reached_path : (k : ℕ) → first_reached low end q.size k < q.size → HasPath q k
    reached_path k h =
        let chosen = held_is (chosen_path q k) (chosen_reach q origins k ∙ lt-ltb (first_reached low end q.size k) q.size h) in
        (chosen.0, chosen_admitted q k chosen.0 chosen.1, chosen_count q k chosen.0 chosen.1)

    pub unreached_none : (k : ℕ) → q.size ≤ first_reached low end q.size k → HasPath q k → ⊥
    unfolding NoPath
    unreached_none k h path = nothing-there q k (none_chosen q origins k h) path.0 path.1 path.2
