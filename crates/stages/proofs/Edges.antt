-- Which frame an edge is.
use Prim.Native.Nat.{ℕ, zero, suc, ◌+◌, ◌≤◌, ◌<◌, min}
use mathlib.Core.Path.{◌≡◌, refl, ap}
use mathlib.Core.List.{List, [], ◌∷◌}
use native.Mathlib.Omega.{arith}
use native.Mathlib.Nat.{le_refl}
use lib.ListN.{length, get_or, get_or-eq_default}
use Rattle.laws.proofs.Numbers.{by_order}
use Rattle.paths.specs.Inner.Order.{Increasing}
use Rattle.paths.proofs.Frames.{increasing_le}
use Rattle.stages.specs.Edges.{edge}

pub edge_in : (bounds : List ℕ) (last j : ℕ) → j < length bounds → edge bounds last j ≡ get_or bounds j 0
edge_in [] last j h = absurd (none h)
  where
    none : j < 0 → ⊥
    none h = omega arith
edge_in (b ∷ bounds) last zero h = refl
edge_in (b ∷ bounds) last (suc j) h = edge_in bounds last j (omega arith)

pub edge_end : (bounds : List ℕ) (last : ℕ) → edge bounds last (length bounds) ≡ last
edge_end bounds last = get_or-eq_default bounds last (le_refl (length bounds))

-- the next edge is not before this boundary, where the last frame is not
pub edge_ascends : (bounds : List ℕ) (last : ℕ) → Increasing bounds → (j : ℕ) → j < length bounds → get_or bounds j 0 ≤ last
    → get_or bounds j 0 ≤ edge bounds last (j + 1)
edge_ascends bounds last increasing j h k =
    by_order (j + 1) (length bounds)
    (λ less. rw (edge_in bounds last (j + 1) less) (increasing_le bounds increasing j (j + 1) (omega arith) less))
    (λ greater.
    let e : j + 1 ≡ length bounds = omega arith in
    rw (e, edge_end bounds last) k)

-- Edges ascend, clamped to the last frame.
pub edges_climb : (bounds : List ℕ) (last : ℕ) → Increasing bounds → (i j : ℕ) → i ≤ j → j ≤ length bounds
    → min (edge bounds last i) last ≤ min (edge bounds last j) last
edges_climb bounds last increasing i j h k =
    by_order j (length bounds)
    (λ less. omega (arith, increasing_le bounds increasing i j h less, edge_in bounds last i (omega arith), edge_in bounds last j less))
    (λ greater.
    let e : j ≡ length bounds = omega arith in
    omega (arith, ap (λ (n : ℕ). edge bounds last n) e, edge_end bounds last))
