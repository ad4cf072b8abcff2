-- How many ascending frames are below a bound: the place of the first that is not.
use Prim.Native.Nat.{ℕ, zero, suc, ◌-◌, ◌≤◌, ◌<◌}
use mathlib.Core.Path.{◌≡◌, refl, ap, ◌∙◌}
use mathlib.Core.Bool.{Bool, true, false, not, cond}
use mathlib.Core.List.{List, [], ◌∷◌, ◌++◌}
use native.Mathlib.Omega.{arith}
use lib.Dec.{T, ltb, ltb→lt, nltb→le}
use lib.ListN.{length, get_or, replicate}
use Rattle.laws.proofs.Numbers.{by_order}
use Rattle.laws.specs.Inner.Tables.{padded}
use Rattle.stages.specs.Places.{Climbs, count_below}

-- A frame below the bound counts one, any other nothing.
pub one_counted : (frame bound rest : ℕ) → frame < bound → cond (ltb frame bound) (suc rest) rest ≡ suc rest
one_counted frame bound rest h = go (ltb frame bound) (nltb→le frame bound)
  where
    go : (below : Bool) → (T (not below) → bound ≤ frame) → cond below (suc rest) rest ≡ suc rest
    go true more = refl
    go false more = omega (arith, more tt)

pub none_counted : (frame bound rest : ℕ) → bound ≤ frame → cond (ltb frame bound) (suc rest) rest ≡ rest
none_counted frame bound rest h = go (ltb frame bound) (ltb→lt frame bound)
  where
    go : (below : Bool) → (T below → frame < bound) → cond below (suc rest) rest ≡ rest
    go true less = omega (arith, less tt)
    go false less = refl

pub below_mono : (frames : List ℕ) (bound further : ℕ) → bound ≤ further → count_below frames bound ≤ count_below frames further
unfolding count_below
below_mono [] bound further h = omega arith
below_mono (frame ∷ frames) bound further h =
    let known = below_mono frames bound further h in
    by_order frame bound
    (λ less. omega (
      arith,
      known,
      one_counted frame bound (count_below frames bound) less,
      one_counted frame further (count_below frames further) (omega arith),
    ))
    (λ more. by_order frame further
    (λ less. omega (
      arith,
      known,
      none_counted frame bound (count_below frames bound) more,
      one_counted frame further (count_below frames further) less,
    ))
    (λ more'. omega (
      arith,
      known,
      none_counted frame bound (count_below frames bound) more,
      none_counted frame further (count_below frames further) more',
    )))

pub below_le : (frames : List ℕ) (bound : ℕ) → count_below frames bound ≤ length frames
unfolding count_below
below_le [] bound = omega arith
below_le (frame ∷ frames) bound =
    let known = below_le frames bound in
    by_order frame bound
    (λ less. omega (arith, known, one_counted frame bound (count_below frames bound) less))
    (λ more. omega (arith, known, none_counted frame bound (count_below frames bound) more))

pub none_below : (frames : List ℕ) (low high bound : ℕ) → Climbs low high frames → bound ≤ low → count_below frames bound ≡ 0
unfolding count_below
none_below [] low high bound c h = refl
none_below (frame ∷ frames) low high bound c h =
    none_counted frame bound (count_below frames bound) (omega (arith, c.0))
    ∙ none_below frames frame high bound c.1 (omega (arith, c.0))

climbs_at : (frames : List ℕ) (low high p : ℕ) → Climbs low high frames → p < length frames → low ≤ get_or frames p 0
climbs_at [] low high p c h = omega arith
climbs_at (frame ∷ frames) low high zero c h = c.0
climbs_at (frame ∷ frames) low high (suc p) c h = omega (arith, c.0, climbs_at frames frame high p c.1 (omega arith))

pub is_below : (frames : List ℕ) (low high bound p : ℕ) → Climbs low high frames → p < length frames → get_or frames p 0 < bound
    → p < count_below frames bound
unfolding count_below
is_below [] low high bound p c h k = omega arith
is_below (frame ∷ frames) low high bound zero c h k = omega (arith, one_counted frame bound (count_below frames bound) k)
is_below (frame ∷ frames) low high bound (suc p) c h k =
    omega (
      arith,
      is_below frames frame high bound p c.1 (omega arith) k,
      one_counted frame bound (count_below frames bound) (omega (arith, climbs_at frames frame high p c.1 (omega arith))),
    )

pub not_below : (frames : List ℕ) (low high bound p : ℕ) → Climbs low high frames → p < length frames → bound ≤ get_or frames p 0
    → count_below frames bound ≤ p
unfolding count_below
not_below [] low high bound p c h k = omega arith
not_below (frame ∷ frames) low high bound zero c h k =
    omega (arith, none_counted frame bound (count_below frames bound) k, none_below frames frame high bound c.1 k)
not_below (frame ∷ frames) low high bound (suc p) c h k =
    let known = not_below frames frame high bound p c.1 (omega arith) k in
    by_order frame bound
    (λ less. omega (arith, known, one_counted frame bound (count_below frames bound) less))
    (λ more. omega (arith, known, none_counted frame bound (count_below frames bound) more))

-- Frames that a spare frame follows, which they do not pass.
level : (n low high : ℕ) → low ≤ high → Climbs low high (replicate n high)
level zero low high h = h
level (suc n) low high h = (h, level n high high (omega arith))

climbs_on : (frames : List ℕ) (n low high : ℕ) → Climbs low high frames → Climbs low high (frames ++ replicate n high)
climbs_on [] n low high c = level n low high c
climbs_on (frame ∷ frames) n low high c = (c.0, climbs_on frames n frame high c.1)

pub climbs_padded : (frames : List ℕ) (size low high : ℕ) → Climbs low high frames → Climbs low high (padded frames size high)
unfolding padded
climbs_padded frames size low high c = climbs_on frames (size - length frames) low high c

count_on : (frames : List ℕ) (n spare bound : ℕ) → bound ≤ spare → count_below (frames ++ replicate n spare) bound ≡ count_below frames bound
unfolding count_below
count_on [] n spare bound h = none_below (replicate n spare) bound spare bound (level n bound spare h) (omega arith)
count_on (frame ∷ frames) n spare bound h = ap (λ (rest : ℕ). cond (ltb frame bound) (suc rest) rest) (count_on frames n spare bound h)

pub count_padded : (frames : List ℕ) (size spare bound : ℕ) → bound ≤ spare
    → count_below (padded frames size spare) bound ≡ count_below frames bound
unfolding padded
count_padded frames size spare bound h = count_on frames (size - length frames) spare bound h
