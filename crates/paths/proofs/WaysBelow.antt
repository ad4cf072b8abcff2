-- Ways from the boundaries below one: which stand in the list, and that each stands there once. Assumes nothing.
use Prim.Native.Nat.{ℕ, zero, suc, ◌<◌}
use native.Mathlib.Omega.{arith}
use mathlib.Core.Path.{◌≡◌, refl, sym, ap, subst}
use mathlib.Core.Bool.{Bool, true, false, cond}
use lib.Dec.{T}
use Rattle.laws.proofs.Tests.{by_choice}
use Rattle.laws.proofs.Numbers.{by_order}
use Rattle.paths.specs.Theory.System.{Way, ◌then◌, In, last, earlier, Once, once_none, once_then}
use Rattle.paths.specs.Theory.PathSystem.{State, Move, ways_below}

pub data Below (ok : ℕ → Bool) (way : ℕ → Way State Move) (m : ℕ) : Way State Move → Type 0 where
  below : {i : ℕ} → i < m → T (ok i) → Below ok way m (way i)

module _ (ok : ℕ → Bool) (way : ℕ → Way State Move) where
  wider : {m : ℕ} {w : Way State Move} → Below ok way m w → Below ok way (suc m) w
  wider (below {i = i} l t) = below {i = i} (omega arith) t

  pub ways_below_law : (m : ℕ) {w : Way State Move} → In w (ways_below ok way m) → Below ok way m w
  unfolding ways_below
  ways_below_law zero i = elim i [ ]
  ways_below_law (suc m) {w} i = go (ok m) (λ t. t) (ways_below_law m {w = w}) i
    where
      go :
          (b : Bool) → (T b → T (ok m)) → (In w (ways_below ok way m) → Below ok way m w) →
          In w (cond b (ways_below ok way m then way m) (ways_below ok way m)) → Below ok way (suc m) w
      go true passes so_far (last e) = subst (Below ok way (suc m)) (sym e) (below {i = m} (omega arith) (passes tt))
      go true passes so_far (earlier i) = wider (so_far i)
      go false passes so_far i = wider (so_far i)

  pub in_below : (m i : ℕ) → i < m → T (ok i) → In (way i) (ways_below ok way m)
  unfolding ways_below
  in_below zero i l t = absurd (omega arith)
  in_below (suc m) i l t =
      by_order i m (λ less. so_far (ok m) (in_below m i less t))
      (λ more. let e : i ≡ m = omega arith in at (ok m) e (subst (λ z. T (ok z)) e t))
    where
      so_far : (b : Bool) → In (way i) (ways_below ok way m) → In (way i) (cond b (ways_below ok way m then way m) (ways_below ok way m))
      so_far true i = earlier i
      so_far false i = i

      at : (b : Bool) → i ≡ m → T b → In (way i) (cond b (ways_below ok way m then way m) (ways_below ok way m))
      at true e t = last (ap way e)
      at false e t = absurd t

  pub below_once : ((i j : ℕ) → way i ≡ way j → i ≡ j) → (m : ℕ) → Once (ways_below ok way m)
  unfolding ways_below
  below_once differ zero = once_none
  below_once differ (suc m) =
      by_choice Once (ok m) (λ t. once_then (below_once differ m) (λ i. not_below (ways_below_law m i) refl)) (λ t. below_once differ m)
    where
      not_below : {w : Way State Move} → Below ok way m w → way m ≡ w → ⊥
      not_below (below {i = i} l t) e = omega (arith, differ m i e)
