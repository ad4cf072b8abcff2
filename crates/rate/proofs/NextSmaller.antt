-- The gap at the place before that of another, where no gap of its own size stands there: the largest that is smaller.
use Prim.Native.Nat.{ℕ, suc, ◌+◌, ◌-◌, ◌≤◌, ◌<◌, zero-le, max}
use mathlib.Core.Bool.{Bool, true, false, cond}
use mathlib.Core.Path.{◌≡◌, refl, subst}
use mathlib.Core.List.{List, [], ◌∷◌, Memᴰ}
use native.Mathlib.Nat.{not-suc-le-zero}
use native.Mathlib.Omega.{arith}
use lib.Dec.{T, ltb, ltb→lt, lt→ltb}
use Rattle.laws.proofs.Numbers.{by_order}
use Rattle.frames.proofs.Ascending.{one_more}
use Rattle.rate.specs.Rate.{below}
use Rattle.rate.specs.Place.{Stands, FoundAt}
use Rattle.rate.specs.Inner.Largest.{largest_below}
use Rattle.rate.proofs.Places.{below_mono, rises, found}

-- nothing lies between it and the limit
none_between : (limit w : ℕ) (gs : List ℕ) → largest_below limit gs ≤ w → below limit gs ≤ below (w + 1) gs
unfolding below largest_below
none_between limit w [] h = zero-le
none_between limit w (g ∷ gs) h =
    one_more (ltb g (w + 1)) (ltb g limit) (λ t. lt→ltb g (w + 1) (low (ltb g limit) t h)) (none_between limit w gs (omega arith))
  where
    low : (b : Bool) → T b → max (cond b g 0) (largest_below limit gs) ≤ w → g < w + 1
    low false t le = elim t [ ]
    low true t le = omega arith

-- where some gap is below the limit, the largest is below it and a gap
record Among (limit : ℕ) (gs : List ℕ) (g : ℕ) : Type 0 where
  pub low : g < limit
  pub member : Memᴰ g gs

none_largest : (limit : ℕ) (gs : List ℕ) → below limit gs ≤ 0 → largest_below limit gs ≡ 0
unfolding below largest_below
none_largest limit [] h = refl
none_largest limit (g ∷ gs) h = go (ltb g limit) h (none_largest limit gs)
  where
    go : (b : Bool) → cond b (suc (below limit gs)) (below limit gs) ≤ 0 → (below limit gs ≤ 0 → largest_below limit gs ≡ 0)
        → max (cond b g 0) (largest_below limit gs) ≡ 0
    go true le rest = absurd (not-suc-le-zero le)
    go false le rest = let e = rest le in omega arith

among : (limit : ℕ) (gs : List ℕ) → 0 < below limit gs → Among limit gs (largest_below limit gs)
unfolding below largest_below
among limit [] h = absurd (not-suc-le-zero h)
among limit (g ∷ gs) h = go (ltb g limit) (ltb→lt g limit) h (among limit gs)
  where
    ahead : 0 < below limit gs → (0 < below limit gs → Among limit gs (largest_below limit gs)) → Among limit (g ∷ gs) (largest_below limit gs)
    ahead some rest = let a = rest some in record { low = a.low; member = Memᴰ.tail a.member }

    here : g < limit → Among limit (g ∷ gs) g
    here less = record { low = less; member = Memᴰ.head refl }

    larger : g < limit → (0 < below limit gs → Among limit gs (largest_below limit gs)) → Among limit (g ∷ gs) (max g (largest_below limit gs))
    larger less rest =
        by_order g (largest_below limit gs)
        (λ more. subst (Among limit (g ∷ gs)) (omega arith)
        (ahead (by_order 0 (below limit gs) (λ some. some) (λ none. absurd (let e = none_largest limit gs none in omega arith))) rest))
        (λ no_more. subst (Among limit (g ∷ gs)) (omega arith) (here less))

    go : (b : Bool) → (T b → g < limit) → 0 < cond b (suc (below limit gs)) (below limit gs)
        → (0 < below limit gs → Among limit gs (largest_below limit gs)) → Among limit (g ∷ gs) (max (cond b g 0) (largest_below limit gs))
    go true less some rest = larger (less tt) rest
    go false less some rest = subst (Among limit (g ∷ gs)) (omega arith) (ahead some rest)

-- the gap at a place stands at the place before too, or the next smaller one does
module _ (gs : List ℕ) (place g : ℕ) (some : 0 < place) (stands : Stands gs place g) where
  pub same_before : below g gs < place → FoundAt gs (place - 1) g
  same_before few = found gs (place - 1) g (record { smaller = omega arith; no_larger = let h = stands.no_larger in omega arith })

  pub smaller_before : place ≤ below g gs → FoundAt gs (place - 1) (largest_below g gs)
  smaller_before all =
      let v = largest_below g gs in
      let least = none_between g v gs (omega arith) in
      let a = among g gs (omega arith) in
      let up = rises gs v a.member in
      let mono = below_mono {k = v + 1} {l = g} (let h = a.low in omega arith) gs in
      let few = stands.smaller in
      found gs (place - 1) v (record { smaller = omega arith; no_larger = omega arith })
