-- Selecting anchors by a test: how many are selected, and two selections one after the other. Assumes nothing.
use mathlib.Core.Path.{◌≡◌, refl, ap, ap₂}
use mathlib.Core.Bool.{Bool, true, false, cond, ◌&&◌}
use mathlib.Core.List.{List, [], ◌∷◌}
use Prim.Native.Nat.{ℕ, suc, ◌+◌, ◌≤◌}
use native.Mathlib.Nat.{le_refl}
use native.Mathlib.Omega.{arith}
use lib.Dec.{T}
use lib.ListN.{length}
use Rattle.laws.proofs.Tests.{by_choice}
use Rattle.paths.specs.Anchors.{Anchor, select}

pub select_le : (test : Anchor → Bool) (anchors : List Anchor) → length (select test anchors) ≤ length anchors
unfolding select
select_le test [] = le_refl 0
select_le test (anchor ∷ anchors) =
    let rest = select_le test anchors in
    by_choice (λ (l : List Anchor). length l ≤ suc (length anchors)) (test anchor) (λ t. omega arith) (λ t. omega arith)

-- a test that passes more
pub select_more : (test more : Anchor → Bool) → ((anchor : Anchor) → T (test anchor) → T (more anchor)) → (anchors : List Anchor)
    → length (select test anchors) ≤ length (select more anchors)
unfolding select
select_more test more h [] = le_refl 0
select_more test more h (anchor ∷ anchors) = go (test anchor) (more anchor) (h anchor) (select_more test more h anchors)
  where
    go : (a b : Bool) → (T a → T b) → length (select test anchors) ≤ length (select more anchors)
        → length (cond a (anchor ∷ select test anchors) (select test anchors)) ≤ length
        (cond b (anchor ∷ select more anchors) (select more anchors))
    go true true i k = omega arith
    go true false i k = absurd (i tt)
    go false true i k = omega arith
    go false false i k = k

-- a test that passes the same
pub select_same : (test other : Anchor → Bool) → ((anchor : Anchor) → test anchor ≡ other anchor) → (anchors : List Anchor)
    → select test anchors ≡ select other anchors
unfolding select
select_same test other h [] = refl
select_same test other h (anchor ∷ anchors) =
    ap₂ (λ (b : Bool) (rest : List Anchor). cond b (anchor ∷ rest) rest) (h anchor) (select_same test other h anchors)

-- one selection after the other
pub select_select : (test other : Anchor → Bool) (anchors : List Anchor)
    → select other (select test anchors) ≡ select (λ anchor. test anchor && other anchor) anchors
unfolding select
select_select test other [] = refl
select_select test other (anchor ∷ anchors) = go (test anchor) (select_select test other anchors)
  where
    go : (b : Bool) → select other (select test anchors) ≡ select (λ (x : Anchor). test x && other x) anchors
        → select other (cond b (anchor ∷ select test anchors) (select test anchors))
        ≡ cond (b && other anchor) (anchor ∷ select (λ (x : Anchor). test x && other x) anchors)
        (select (λ (x : Anchor). test x && other x) anchors)
    go true e = ap (λ (rest : List Anchor). cond (other anchor) (anchor ∷ rest) rest) e
    go false e = e

-- a test that passes what one of two others passes, and no anchor passes both
abbrev pub one_if : Bool → ℕ
one_if b = cond b 1 0

pub select_split : (test left right : Anchor → Bool)
    → ((anchor : Anchor) → one_if (test anchor) ≡ one_if (left anchor) + one_if (right anchor))
    → (anchors : List Anchor) → length (select test anchors) ≡ length (select left anchors) + length (select right anchors)
unfolding select
select_split test left right h [] = refl
select_split test left right h (anchor ∷ anchors) =
    go (test anchor) (left anchor) (right anchor) (h anchor) (select_split test left right h anchors)
  where
    go : (a b c : Bool) → one_if a ≡ one_if b + one_if c
        → length (select test anchors) ≡ length (select left anchors) + length (select right anchors)
        → length (cond a (anchor ∷ select test anchors) (select test anchors))
        ≡ length (cond b (anchor ∷ select left anchors) (select left anchors)) + length
        (cond c (anchor ∷ select right anchors) (select right anchors))
    go true true true e k = omega arith
    go true true false e k = omega arith
    go true false true e k = omega arith
    go true false false e k = omega arith
    go false true true e k = omega arith
    go false true false e k = omega arith
    go false false true e k = omega arith
    go false false false e k = omega arith
