-- What a stretch of frames holds: no more than there is, no less over a longer stretch, and over neighbouring stretches the sum.
-- Clamping to F changes nothing for kept anchors. Assumes nothing.
use mathlib.Core.Path.{◌≡◌, refl, sym, ap, ap₂, ◌∙◌}
use mathlib.Core.Bool.{Bool, true, false, cond, ◌&&◌}
use mathlib.Core.List.{List, [], ◌∷◌}
use Prim.Native.Nat.{ℕ, suc, ◌+◌, ◌≤◌, ◌<◌, min}
use native.Mathlib.Nat.{le_of_eq, le_trans, zero-add}
use native.Mathlib.Omega.{arith}
use lib.Dec.{leb, ltb, leb→le, le→leb, ltb→lt, lt→ltb, nltb→le}
use lib.ListN.{length}
use lib.Ieee.Fits.{and_i, and_l, and_r}
use Rattle.paths.specs.Frames.{within_mask}
use Rattle.laws.specs.Inner.Each.{Each, each_none, each_more}
use Rattle.paths.specs.Anchors.{Anchor, select, numbered, kept_in, held_in}
use borrow.Author.Tests.{le-leb, lt-leb, lt-ltb, le-ltb}
use Rattle.laws.proofs.Tests.{by_choice, by_test, same_test, and_same}
use Rattle.paths.proofs.Select.{select_le, select_more, select_same, select_select, one_if, select_split}

-- ---- `kept_in`

numbered_length : (row : ℕ) (frames : List ℕ) → length (numbered row frames) ≡ length frames
unfolding numbered
numbered_length row [] = refl
numbered_length row (frame ∷ frames) = ap suc (numbered_length (suc row) frames)

pub kept_in_le : (mask : List ℕ) (row : ℕ) (frames : List ℕ) → length (kept_in mask row frames) ≤ length frames
unfolding kept_in
kept_in_le mask row frames =
    le_trans (select_le _ (numbered row frames)) (le_of_eq (numbered_length row frames))

-- ---- `held_in`

pub held_in_le : (anchors : List Anchor) (from to : ℕ) → length (held_in anchors from to) ≤ length anchors
unfolding held_in
held_in_le anchors from to = select_le _ anchors

-- a later end
pub held_in_more : (anchors : List Anchor) (from : ℕ) {to further : ℕ} → to ≤ further
    → length (held_in anchors from to) ≤ length (held_in anchors from further)
unfolding held_in
held_in_more anchors from {to} {further} h =
    select_more (λ anchor. leb from anchor.frame && ltb anchor.frame to)
    (λ anchor. leb from anchor.frame && ltb anchor.frame further)
    (λ anchor t. and_i (leb from anchor.frame) (ltb anchor.frame further)
    (and_l (leb from anchor.frame) (ltb anchor.frame to) t)
    (let below : anchor.frame < to = ltb→lt anchor.frame to (and_r (leb from anchor.frame) (ltb anchor.frame to) t) in
    lt→ltb anchor.frame further (omega arith)))
    anchors

-- neighbouring stretches
pub held_in_split : (anchors : List Anchor) (from mid to : ℕ) → from ≤ mid → mid ≤ to
    → length (held_in anchors from to) ≡ length (held_in anchors from mid) + length (held_in anchors mid to)
unfolding held_in
held_in_split anchors from mid to h k =
    select_split (λ anchor. leb from anchor.frame && ltb anchor.frame to)
    (λ anchor. leb from anchor.frame && ltb anchor.frame mid) (λ anchor. leb mid anchor.frame && ltb anchor.frame to)
    (λ anchor. place anchor.frame) anchors
  where
    place : (frame : ℕ)
        → one_if (leb from frame && ltb frame to) ≡ one_if (leb from frame && ltb frame mid) + one_if (leb mid frame && ltb frame to)
    place frame =
        by_test (ltb frame from)
        (λ t. let a : frame < from = ltb→lt frame from t in
        rw (lt-leb from frame (omega arith), lt-leb mid frame (omega arith)))
        (λ t. let a : from ≤ frame = nltb→le frame from t in
        rw (le-leb from frame a) (by_test (ltb frame mid)
        (λ s. let b : frame < mid = ltb→lt frame mid s in
        rw (lt-ltb frame mid b, lt-ltb frame to (omega arith), lt-leb mid frame b))
        (λ s. let b : mid ≤ frame = nltb→le frame mid s in
        rw (le-ltb frame mid b, le-leb mid frame b) (sym (zero-add _)))))

-- clamped to F, for kept anchors
pub held_in_clamped : (mask : List ℕ) (row : ℕ) (frames : List ℕ) (from to : ℕ)
    → held_in (kept_in mask row frames) (min from (length mask)) (min to (length mask)) ≡ held_in (kept_in mask row frames) from to
unfolding held_in kept_in
held_in_clamped mask row frames from to =
    select_select in_mask clamped (numbered row frames)
    ∙ select_same (λ anchor. in_mask anchor && clamped anchor) (λ anchor. in_mask anchor && plain anchor) alike (numbered row frames)
    ∙ sym (select_select in_mask plain (numbered row frames))
  where
    in_mask : Anchor → Bool
    in_mask anchor = within_mask mask anchor.frame

    clamped : Anchor → Bool
    clamped anchor = leb (min from (length mask)) anchor.frame && ltb anchor.frame (min to (length mask))

    plain : Anchor → Bool
    plain anchor = leb from anchor.frame && ltb anchor.frame to

    alike : (anchor : Anchor) → in_mask anchor && clamped anchor ≡ in_mask anchor && plain anchor
    alike anchor =
        and_same (in_mask anchor) λ t.
        let below : anchor.frame < length mask = ltb→lt anchor.frame (length mask) (and_l (ltb anchor.frame (length mask)) _ t) in
        ap₂ ◌&&◌
        (same_test (leb (min from (length mask)) anchor.frame) (leb from anchor.frame)
        (λ s. let a = leb→le (min from (length mask)) anchor.frame s in le→leb from anchor.frame (omega arith))
        (λ s. let a = leb→le from anchor.frame s in le→leb (min from (length mask)) anchor.frame (omega arith)))
        (same_test (ltb anchor.frame (min to (length mask))) (ltb anchor.frame to)
        (λ s. let a = ltb→lt anchor.frame (min to (length mask)) s in lt→ltb anchor.frame to (omega arith))
        (λ s. let a = ltb→lt anchor.frame to s in lt→ltb anchor.frame (min to (length mask)) (omega arith)))

-- ---- the rows of anchors

-- ---- rows play no part in how many are held

-- one more at the front of both lists, or of neither
one_more : (b : Bool) (a a' : Anchor) (l l' : List Anchor) → length l ≡ length l' → length (cond b (a ∷ l) l) ≡ length (cond b (a' ∷ l') l')
one_more true a a' l l' e = ap suc e
one_more false a a' l l' e = e

numbered_alike : (test : ℕ → Bool) (row row' : ℕ) (frames : List ℕ)
    → length (select (λ anchor. test anchor.frame) (numbered row frames))
    ≡ length (select (λ anchor. test anchor.frame) (numbered row' frames))
unfolding select numbered
numbered_alike test row row' [] = refl
numbered_alike test row row' (frame ∷ frames) =
    one_more (test frame) (record { frame = frame; row = row }) (record { frame = frame; row = row' })
    (select (λ anchor. test anchor.frame) (numbered (suc row) frames)) (select (λ anchor. test anchor.frame) (numbered (suc row') frames))
    (numbered_alike test (suc row) (suc row') frames)

pub held_alike : (mask frames : List ℕ) (row row' from to : ℕ)
    → length (held_in (kept_in mask row frames) from to) ≡ length (held_in (kept_in mask row' frames) from to)
unfolding kept_in held_in
held_alike mask frames row row' from to =
    let in_mask : Anchor → Bool = λ anchor. within_mask mask anchor.frame in
    let inside : Anchor → Bool = λ anchor. leb from anchor.frame && ltb anchor.frame to in
    ap length (select_select in_mask inside (numbered row frames))
    ∙ numbered_alike (λ frame. within_mask mask frame && (leb from frame && ltb frame to)) row row' frames
    ∙ sym (ap length (select_select in_mask inside (numbered row' frames)))

pub each_select : {P : Anchor → Type 0} (test : Anchor → Bool) {anchors : List Anchor} → Each P anchors → Each P (select test anchors)
unfolding select
each_select test each_none = each_none
each_select {P = P} test (each_more {x = anchor} h rest) =
    by_choice (Each P) (test anchor) (λ t. each_more h (each_select test rest)) (λ t. each_select test rest)

-- from `first` up to, but not including, `end`
abbrev pub InRows : ℕ → ℕ → Anchor → Type 0
InRows first end anchor = (first ≤ anchor.row) × (anchor.row < end)

numbered_rows : (first end row : ℕ) (frames : List ℕ) → first ≤ row → row + length frames ≤ end
    → Each (InRows first end) (numbered row frames)
unfolding numbered
numbered_rows first end row [] low high = each_none
numbered_rows first end row (frame ∷ frames) low high =
    each_more (low, omega arith) (numbered_rows first end (suc row) frames (omega arith) (omega arith))

pub kept_rows : (mask : List ℕ) (first end : ℕ) (frames : List ℕ) → first + length frames ≤ end
    → Each (InRows first end) (kept_in mask first frames)
unfolding kept_in
kept_rows mask first end frames high = each_select _ (numbered_rows first end first frames (omega arith) high)

pub held_rows : (mask : List ℕ) (first end : ℕ) (frames : List ℕ) (from to : ℕ) → first + length frames ≤ end
    → Each (InRows first end) (held_in (kept_in mask first frames) from to)
unfolding held_in
held_rows mask first end frames from to high = each_select _ (kept_rows mask first end frames high)
