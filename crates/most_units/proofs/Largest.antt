-- The most units of the paths that a problem admits: there is one such count, and it is the last that reaches a boundary. Assumes nothing.
use Prim.Native.Nat.{ℕ, ◌+◌, ◌≤◌, ◌<◌}
use native.Mathlib.Omega.{arith}
use mathlib.Core.Logic.{◌↔◌}
use mathlib.Core.Path.{◌≡◌, refl}
use Rattle.laws.proofs.Numbers.{by_order}
use Rattle.paths.specs.Problem.{Problem}
use Rattle.paths.specs.Path.{count, HasPath}
use Rattle.paths.specs.Inner.Ranges.{Origins, first_reached}
use Rattle.paths.proofs.Counts.{fewer, fewer_than_boundaries, some_path, bare_path, reached_path, unreached_none}
use Rattle.most_units.specs.Most.{Most}
use Rattle.most_units.specs.Inner.Last.{LastReached}

module _ {q : Problem} {cap : ℕ} where
  -- of the counts up to the cap, those that are admitted are those up to the most
  pub counts_exactly : {a : ℕ} → Most q cap a → (k : ℕ) → k ≤ cap → HasPath q k ↔ (k ≤ a)
  counts_exactly {a} most k few = (
    λ path. by_order a k (λ less. omega (arith, most.largest (omega arith) path.0 path.1, path.2)) (λ h. h),
    λ h. fewer q k a h most.there,
  )

  -- no two counts are the most under one cap
  pub one_most : {a b : ℕ} → Most q cap a → Most q cap b → a ≡ b
  one_most {a} {b} m n =
      let few : b ≤ cap = omega (arith, n.capped) in
      let few' : a ≤ cap = omega (arith, m.capped) in
      omega (arith, (counts_exactly m b few).0 n.there, (counts_exactly n a few').0 m.there)

  -- where there is a count, there is a boundary
  pub some_boundary : {a : ℕ} → Most q cap a → 0 < q.size
  some_boundary most = some_path q most.there

-- with one boundary there is no unit
pub one_boundary : (q : Problem) → q.size ≡ 1 → (cap : ℕ) → Most q cap 0
one_boundary q one cap = record {
  there = bare_path q (omega arith);
  largest = λ below path a. omega (arith, fewer_than_boundaries q a);
  smaller = λ k h. absurd (omega arith);
  capped = omega arith;
}

module _ (q : Problem) {low end : ℕ → ℕ} (origins : Origins q.unit_ok q.size low end) where
  pub last_most : {cap most : ℕ} → LastReached (first_reached low end q.size) q.size cap most → Most q cap most
  last_most {cap} {most} last = record {
    there = here;
    largest =
        λ below path a.
        by_order most (count path)
        (λ more. absurd
        (unreached_none q origins (most + 1) (last.ends below) (fewer q (most + 1) (count path) (omega arith) (path, a, refl))))
        (λ h. h);
    smaller = λ k h. fewer q k most (omega arith) here;
    capped = last.capped;
  }
    where
      here : HasPath q most
      here = reached_path q origins most last.reaches
