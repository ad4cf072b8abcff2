-- What the Rust says of `tbu_spans` in its comment, in our words: each span holds its nucleus, and they stand in order and never overlap.
use Prim.Native.Nat.{ℕ, zero, suc, ◌+◌, ◌≤◌, ◌<◌, zero-le, min, max}
use mathlib.Core.Bool.{Bool, true, false, not}
use mathlib.Core.Path.{◌≡◌, refl, ap}
use mathlib.Core.List.{List, ◌∷◌, map, Memᴰ}
use native.Mathlib.Nat.{le_refl}
use native.Mathlib.Omega.{arith}
use lib.Dec.{T, ltb, ltb→lt, nltb→le}
use lib.ListN.{length}
use Rattle.laws.proofs.Tests.{by_choice}
use Rattle.frames.specs.Frames.{highest_below, lowest_from, onward, ascending_from}
use Rattle.frames.specs.Theory.Order.{InOrder}
use Rattle.spans.specs.Spans.{uncut_start, uncut_end, start_beside, end_beside, span_of, spans_of}
use Rattle.std.specs.Prelude.{Option, Some, None, unwrap_or}
use Rattle.frames.proofs.Neighbours.{IsHighest, IsLowest, highest_is, lowest_is, lowest}
use Rattle.spans.proofs.Cuts.{start_cut, end_cut, start_kept, end_kept}

-- the uncut edges hold the frame
start_below : (bounds : List ℕ) (lo f : ℕ) → uncut_start bounds lo f ≤ f
start_below bounds lo f = go (highest_below f bounds) (highest_is f bounds)
  where
    go : (near : Option ℕ) → IsHighest f bounds near → unwrap_or near (min lo f) ≤ f
    go None is = omega arith
    go (Some b) is = let below = is.below in omega arith

end_above : (bounds : List ℕ) (hi f : ℕ) → f < uncut_end bounds hi f
end_above bounds hi f = go (lowest_from (f + 1) bounds) (lowest_is (f + 1) bounds)
  where
    go : (near : Option ℕ) → IsLowest (f + 1) bounds near → f < unwrap_or near (max hi (f + 1))
    go None is = omega arith
    go (Some b) is = let above = is.from in omega arith

module _ (frames bounds : List ℕ) (lo hi : ℕ) where
  -- each span holds its nucleus
  pub starts_by : (f : ℕ) → (span_of frames bounds lo hi f).start ≤ f
  unfolding span_of
  starts_by f = go (highest_below f frames) (highest_is f frames)
    where
      go : (near : Option ℕ) → IsHighest f frames near → start_beside bounds lo hi near f ≤ f
      go None is = start_below bounds lo f
      go (Some left) is = by_choice (λ (start : ℕ). start ≤ f) (ltb (uncut_start bounds lo f) (uncut_end bounds hi left)) (λ _. let below = is.below in omega arith) (λ _. start_below bounds lo f)

  pub ends_after : (f : ℕ) → f < (span_of frames bounds lo hi f).end
  unfolding span_of
  ends_after f = go (lowest_from (f + 1) frames) (lowest_is (f + 1) frames)
    where
      go : (near : Option ℕ) → IsLowest (f + 1) frames near → f < end_beside bounds lo hi f near
      go None is = end_above bounds hi f
      go (Some right) is = by_choice (λ (end : ℕ). f < end) (ltb (uncut_start bounds lo right) (uncut_end bounds hi f)) (λ _. let above = is.from in omega arith) (λ _. end_above bounds hi f)

  -- the right neighbour's left neighbour
  back : {f g : ℕ} → Memᴰ f frames → lowest_from (f + 1) frames ≡ Some g → highest_below g frames ≡ Some f
  back {f} {g} m there = go (highest_below g frames) (highest_is g frames)
    where
      go : (near : Option ℕ) → IsHighest g frames near → near ≡ Some f
      go None is = absurd (let above = is f m in let up = (lowest (f + 1) frames there).from in omega arith)
      go (Some h) is = ap Some (pick (ltb f h) (ltb→lt f h) (nltb→le f h))
        where
          pick : (b : Bool) → (T b → f < h) → (T (not b) → h ≤ f) → h ≡ f
          pick true up _ =
              let over = (lowest (f + 1) frames there).least h is.member (let k = up tt in omega arith) in
              let below = is.below in
              omega arith
          pick false _ down =
              let at_most = is.greatest f m (let up = (lowest (f + 1) frames there).from in omega arith) in
              let k = down tt in
              omega arith

  -- neighbours meet at the cut or do not overlap
  meet : {f g : ℕ} → Memᴰ f frames → lowest_from (f + 1) frames ≡ Some g
      → (span_of frames bounds lo hi f).end ≤ (span_of frames bounds lo hi g).start
  unfolding span_of
  meet {f} {g} m there = go (ltb s e) (ltb→lt s e) (nltb→le s e)
    where
      s : ℕ
      s = uncut_start bounds lo g

      e : ℕ
      e = uncut_end bounds hi f

      go : (b : Bool) → (T b → s < e) → (T (not b) → e ≤ s)
          → end_beside bounds lo hi f (lowest_from (f + 1) frames) ≤ start_beside bounds lo hi (highest_below g frames) g
      go true over _ =
          rw (end_cut bounds lo hi f g s e refl refl there (over tt), start_cut bounds lo hi f g s e refl refl (back m there) (over tt)) (le_refl _)
      go false _ apart =
          rw (end_kept bounds lo hi f g s e refl refl there (apart tt), start_kept bounds lo hi f g s e refl refl (back m there) (apart tt)) (apart tt)

  -- no span is empty
  forward : (f : ℕ) → (span_of frames bounds lo hi f).start ≤ (span_of frames bounds lo hi f).end
  forward f =
      let by = starts_by f in
      let after = ends_after f in
      omega arith

  in_order_on : (n : ℕ) {low f : ℕ} → Memᴰ f frames → low ≤ (span_of frames bounds lo hi f).start
      → InOrder low (map (span_of frames bounds lo hi) (f ∷ ascending_from n (f + 1) frames))
  unfolding ascending_from
  in_order_on zero {f = f} m h = (h, forward f, tt)
  in_order_on (suc n) {f = f} m h = (h, forward f, go (lowest_from (f + 1) frames) refl (lowest_is (f + 1) frames) (λ g there up. in_order_on n there up))
    where
      go : (near : Option ℕ) → lowest_from (f + 1) frames ≡ near → IsLowest (f + 1) frames near
          → ((g : ℕ) → Memᴰ g frames → (span_of frames bounds lo hi f).end ≤ (span_of frames bounds lo hi g).start
          → InOrder (span_of frames bounds lo hi f).end (map (span_of frames bounds lo hi) (g ∷ ascending_from n (g + 1) frames)))
          → InOrder (span_of frames bounds lo hi f).end (map (span_of frames bounds lo hi) (onward near (λ g. ascending_from n (g + 1) frames)))
      go None there is rest = tt
      go (Some g) there is rest = rest g is.member (meet m there)

  -- they stand in order and never overlap
  pub in_order : InOrder 0 (spans_of frames bounds lo hi)
  unfolding ascending_from
  in_order = from (length frames)
    where
      from : (n : ℕ) → InOrder 0 (map (span_of frames bounds lo hi) (ascending_from n 0 frames))
      from zero = tt
      from (suc n) = go (lowest_from 0 frames) (lowest_is 0 frames)
        where
          go : (near : Option ℕ) → IsLowest 0 frames near
              → InOrder 0 (map (span_of frames bounds lo hi) (onward near (λ g. ascending_from n (g + 1) frames)))
          go None is = tt
          go (Some g) is = in_order_on n is.member zero-le
