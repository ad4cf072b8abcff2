-- Kept anchors, one listed frame at a time, and the arrays that hold them.
use Prim.Native.Nat.{ℕ, suc, ◌+◌, ◌<◌}
use mathlib.Core.Path.{◌≡◌, refl, sym, ap, ap₂, ◌∙◌}
use mathlib.Core.Bool.{Bool, true, false, cond, ◌||◌}
use mathlib.Core.List.{List, [], ◌∷◌, ◌++◌, map, append-nil}
use native.Mathlib.Omega.{arith}
use native.Mathlib.Numerals.{add-one}
use native.Mathlib.Nat.{add-zero, add-suc, suc-add}
use lib.ListN.{length, get_or, take, set, replicate, length-append, length-map}
use lib.Seq.{take-suc, length-take-le}
use Rattle.std.specs.List.{list_any}
use Rattle.laws.proofs.Listed.{padded_none, padded_more}
use Rattle.laws.specs.Inner.Tables.{padded}
use Rattle.paths.specs.Frames.{within_mask}
use Rattle.paths.specs.Passes.{non_empty}
use Rattle.paths.specs.Anchors.{Anchor, select, numbered, kept_in}
use Rattle.limits.specs.Capacity.{anchor_room}
use Rattle.limits.specs.Common.{absent}
use Rattle.stages.specs.Kept.{Keeps}

select_append : (test : Anchor → Bool) (xs ys : List Anchor) → select test (xs ++ ys) ≡ select test xs ++ select test ys
unfolding select
select_append test [] ys = refl
select_append test (x ∷ xs) ys = go (test x) (select test (xs ++ ys)) (select test xs) (select_append test xs ys)
  where
    go : (passes : Bool) (all some : List Anchor) → all ≡ some ++ select test ys
        → cond passes (x ∷ all) all ≡ cond passes (x ∷ some) some ++ select test ys
    go true all some e = ap (λ (anchors : List Anchor). x ∷ anchors) e
    go false all some e = e

numbered_last : (row : ℕ) (frames : List ℕ) (frame : ℕ)
    → numbered row (frames ++ (frame ∷ [])) ≡ numbered row frames ++ (record { frame = frame; row = row + length frames } ∷ [])
unfolding numbered
numbered_last row [] frame = ap (λ (r : ℕ). record { frame = frame; row = r } ∷ []) (sym (add-zero row))
numbered_last row (first ∷ frames) frame =
    ap (λ (anchors : List Anchor). record { frame = first; row = row } ∷ anchors)
    (numbered_last (suc row) frames frame
    ∙ ap (λ (r : ℕ). numbered (suc row) frames ++ (record { frame = frame; row = r } ∷ []))
    (suc-add row (length frames) ∙ sym (add-suc row (length frames))))

-- the anchors kept of one listed frame more
kept_last : (mask : List ℕ) (row : ℕ) (frames : List ℕ) (frame : ℕ)
    → kept_in mask row (frames ++ (frame ∷ []))
    ≡ kept_in mask row frames ++ cond (within_mask mask frame) (record { frame = frame; row = row + length frames } ∷ []) []
unfolding kept_in select numbered
kept_last mask row frames frame =
    ap (select (λ anchor. within_mask mask anchor.frame)) (numbered_last row frames frame)
    ∙ select_append (λ anchor. within_mask mask anchor.frame) (numbered row frames) _

module _ (mask : List ℕ) (row : ℕ) (frames : List ℕ) (i : ℕ) (h : i < length frames) where
  one_more : kept_in mask row (take (i + 1) frames)
      ≡ kept_in mask row (take i frames)
      ++ cond (within_mask mask (get_or frames i 0)) (record { frame = get_or frames i 0; row = row + i } ∷ []) []
  one_more =
      ap (λ (n : ℕ). kept_in mask row (take n frames)) (add-one i)
      ∙ ap (kept_in mask row) (take-suc frames i 0 h)
      ∙ kept_last mask row (take i frames) (get_or frames i 0)
      ∙ ap (λ (n : ℕ). kept_in mask row (take i frames)
      ++ cond (within_mask mask (get_or frames i 0)) (record { frame = get_or frames i 0; row = row + n } ∷ []) [])
      (length-take-le i frames (omega arith))

map_last : (f : Anchor → ℕ) (anchors : List Anchor) (anchor : Anchor) → map f (anchors ++ (anchor ∷ [])) ≡ map f anchors ++ (f anchor ∷ [])
map_last f [] anchor = refl
map_last f (first ∷ anchors) anchor = ap (λ (rest : List ℕ). f first ∷ rest) (map_last f anchors anchor)

pub keeps_none : Keeps [] 0 (replicate anchor_room absent) (replicate anchor_room 0)
keeps_none = record { counted = refl; framed = padded_none anchor_room absent; rowed = padded_none anchor_room 0 }

-- an array of one figure of each anchor takes in the next one
figure_more : (f : Anchor → ℕ) (spare : ℕ) (anchors : List Anchor) (anchor : Anchor) (count : ℕ) (figures : List ℕ)
    → count ≡ length anchors → count < anchor_room → figures ≡ padded (map f anchors) anchor_room spare
    → set figures count (f anchor) ≡ padded (map f (anchors ++ (anchor ∷ []))) anchor_room spare
figure_more f spare anchors anchor count figures counted h e =
    ap₂ (λ (l : List ℕ) (n : ℕ). set l n (f anchor)) e (counted ∙ sym (length-map anchors f))
    ∙ padded_more (map f anchors) anchor_room spare (f anchor) (omega (arith, length-map anchors f))
    ∙ ap (λ (l : List ℕ). padded l anchor_room spare) (sym (map_last f anchors anchor))

pub keeps_more : (anchors : List Anchor) (anchor : Anchor) (count : ℕ) (frames rows : List ℕ) → count < anchor_room
    → Keeps anchors count frames rows
    → Keeps (anchors ++ (anchor ∷ [])) (count + 1) (set frames count anchor.frame) (set rows count anchor.row)
keeps_more anchors anchor count frames rows h k = record {
  counted = omega (arith, k.counted, length-append anchors (anchor ∷ []));
  framed = figure_more (λ a. a.frame) absent anchors anchor count frames k.counted h k.framed;
  rowed = figure_more (λ a. a.row) 0 anchors anchor count rows k.counted h k.rowed;
}

-- One listed frame more, kept or dropped.
module _ (mask : List ℕ) (first : ℕ) (listed : List ℕ) (i : ℕ) (h : i < length listed) (count : ℕ) (frames rows : List ℕ)
    (before : Keeps (kept_in mask first (take i listed)) count frames rows) where
  pub keeps_it : count < anchor_room → within_mask mask (get_or listed i 0) ≡ true
      → Keeps (kept_in mask first (take (i + 1) listed)) (count + 1) (set frames count (get_or listed i 0)) (set rows count (first + i))
  keeps_it small e =
      rw (one_more mask first listed i h, e)
      (keeps_more (kept_in mask first (take i listed)) (record { frame = get_or listed i 0; row = first + i }) count frames rows small before)

  pub drops_it : within_mask mask (get_or listed i 0) ≡ false → Keeps (kept_in mask first (take (i + 1) listed)) count frames rows
  drops_it e = rw (one_more mask first listed i h, e, append-nil) before

-- Some anchor is kept exactly where some listed frame is within the mask.
pub some_kept : (mask : List ℕ) (row : ℕ) (frames : List ℕ) → list_any (within_mask mask) frames ≡ non_empty (kept_in mask row frames)
unfolding kept_in select numbered
some_kept mask row [] = refl
some_kept mask row (frame ∷ frames) = go (within_mask mask frame) _ (some_kept mask (suc row) frames)
  where
    go : (passes : Bool) {some : Bool} (rest : List Anchor) → some ≡ non_empty rest
        → (passes || some) ≡ non_empty (cond passes (record { frame = frame; row = row } ∷ rest) rest)
    go true rest e = refl
    go false rest e = e
