-- A part of the two work areas that starts at a place and goes to their end, and the areas when the part is back. Assumes nothing.
use mathlib.Core.List.{List, [], ◌++◌, append-nil}
use mathlib.Core.Path.{◌≡◌, sym, ap, subst, ◌∙◌}
use Prim.Native.Nat.{ℕ, ◌+◌, ◌-◌, ◌≤◌, ◌<◌}
use native.Mathlib.Omega.{arith}
use lib.Ieee.{Float, nan}
use lib.ListN.{length, get_or, take, drop, length-drop, drop_of_length-le, get_or-append}
use lib.Seq.{take_all, get_or-drop, get_or-take, get_or-append-add, length-take-le}
use borrow.Rule.Slice.PartMut.{put_mid, same_len_mid}
use Rattle.paths.specs.Cell.{Cell}
use Rattle.paths.specs.Inner.Marks.{Marked}
use Rattle.rows.specs.Rows.{HoldsAt, Same}

-- the part, and the whole with the part as it was left
abbrev pub part : {A : Type 0} → ℕ → List A → List A
part a l = take (length l - a) (drop a l)

abbrev pub put : {A : Type 0} → ℕ → List A → List A → List A
put a l p = put_mid a (length l - a) l p

module _ {A : Type 0} (a : ℕ) (l : List A) where
  part_whole : part a l ≡ drop a l
  part_whole = take_all (length l - a) (drop a l) (omega (arith, length-drop a l))

  pub part_at : (j : ℕ) (d : A) → get_or (part a l) j d ≡ get_or l (a + j) d
  part_at j d = ap (λ (p : List A). get_or p j d) part_whole ∙ get_or-drop a l j d

  pub part_length : length (part a l) ≡ length l - a
  part_length = ap (λ (p : List A). length p) part_whole ∙ length-drop a l

  pub put_length : (p : List A) → length p ≡ length (part a l) → length (put a l p) ≡ length l
  put_length p e = same_len_mid a (length l - a) l p e

  nothing_after : drop (length l - a) (drop a l) ≡ []
  nothing_after =
      let short : length (drop a l) ≤ length l - a = omega (arith, length-drop a l) in
      drop_of_length-le (drop a l) short

  module _ (within : a ≤ length l) (p : List A) where
    pub put_at : (j : ℕ) (d : A) → get_or (put a l p) (a + j) d ≡ get_or p j d
    put_at j d =
        ap (λ (n : ℕ). get_or (put a l p) (n + j) d) (sym (length-take-le a l within))
        ∙ get_or-append-add (take a l) (p ++ drop (length l - a) (drop a l)) j d
        ∙ ap (λ (r : List A). get_or (p ++ r) j d) nothing_after
        ∙ ap (λ (r : List A). get_or r j d) (append-nil p)

    pub put_below : (j : ℕ) (d : A) → j < a → get_or (put a l p) j d ≡ get_or l j d
    put_below j d h =
        get_or-append (take a l) (p ++ drop (length l - a) (drop a l)) d j (omega (arith, length-take-le a l within))
        ∙ get_or-take a l j d h

module _ (best : List Float) (back : List ℕ) (a : ℕ) where
  -- a cell of the part is one of the whole
  pub part_holds : (j : ℕ) {cell : Cell Marked} → HoldsAt best back (a + j) cell → HoldsAt (part a best) (part a back) j cell
  part_holds j holds = rw (part_at a best j nan, part_at a back j 0) holds

  module _ (b : a ≤ length best) (m : a ≤ length back) (best' : List Float) (back' : List ℕ) where
    pub put_holds : (j : ℕ) {cell : Cell Marked} → HoldsAt best' back' j cell → HoldsAt (put a best best') (put a back back') (a + j) cell
    put_holds j holds = rw (put_at a best b best' j nan, put_at a back m back' j 0) holds

    pub put_same_below : (at : ℕ) → at < a → Same best back (put a best best') (put a back back') at
    put_same_below at h = record { value = put_below a best b best' at nan h; mark = put_below a back m back' at 0 h }

    pub put_same : (at : ℕ) → a ≤ at → Same (part a best) (part a back) best' back' (at - a)
        → Same best back (put a best best') (put a back back') at
    put_same at h same =
        let is : a + (at - a) ≡ at = omega arith in
        subst (Same best back (put a best best') (put a back back')) is
        record {
          value = put_at a best b best' (at - a) nan ∙ same.value ∙ part_at a best (at - a) nan;
          mark = put_at a back m back' (at - a) 0 ∙ same.mark ∙ part_at a back (at - a) 0;
        }
