-- A work area whose used cells are zero again, and whose others are as they were, is what it was. Assumes nothing.
use mathlib.Core.List.{List, ◌++◌}
use mathlib.Core.Path.{◌≡◌, refl, sym, ap, ◌∙◌}
use Prim.Native.Nat.{ℕ, ◌+◌, ◌-◌, ◌≤◌, ◌<◌}
use native.Mathlib.Omega.{arith}
use lib.Ieee.{Float, binary64, of_bits}
use lib.ListN.{length, get_or, drop, replicate, length-append, length-drop, length-replicate, get_or-replicate, get_or-append}
use lib.Seq.{ext_get_or, get_or-drop, get_or-append-add}
use Rattle.laws.proofs.Numbers.{by_order}
use Rattle.paths.specs.Cell.{empty}
use Rattle.rows.specs.Rows.{Holds, unreached}
use Rattle.closed.specs.Asked.{Unused}

pub restored :
    {A : Type 0} (cells : ℕ) (l left : List A) (z d : A) → cells ≤ length l → length left ≡ length l →
    ((i : ℕ) → i < cells → get_or l i d ≡ z) →
    ((i : ℕ) → cells ≤ i → get_or left i d ≡ get_or l i d) → replicate cells z ++ drop cells left ≡ l
restored {A} cells l left z d h e zero rest = ext_get_or d (replicate cells z ++ drop cells left) l size (λ i k. at i)
  where
    size : length (replicate cells z ++ drop cells left) ≡ length l
    size = length-append (replicate cells z) (drop cells left) ∙ omega (arith, length-replicate cells z, length-drop cells left)

    beyond : (i : ℕ) → cells ≤ i → get_or (replicate cells z ++ drop cells left) i d ≡ get_or left i d
    beyond i above =
        let is : length (replicate cells z) + (i - cells) ≡ i = omega (arith, length-replicate cells z) in
        let place : cells + (i - cells) ≡ i = omega arith in
        ap (λ (n : ℕ). get_or (replicate cells z ++ drop cells left) n d) (sym is)
        ∙ get_or-append-add (replicate cells z) (drop cells left) (i - cells) d ∙ get_or-drop cells left (i - cells) d
        ∙ ap (λ (n : ℕ). get_or left n d) place

    at : (i : ℕ) → get_or (replicate cells z ++ drop cells left) i d ≡ get_or l i d
    at i = by_order i cells
        (λ below.
        get_or-append (replicate cells z) (drop cells left) d i (omega (arith, length-replicate cells z))
        ∙ get_or-replicate cells i z d below ∙ sym (zero i below))
        (λ above. beyond i above ∙ rest i above)

-- a cell that nothing reached is zero bits in both areas
pub zero_value : {value : Float} {mark : ℕ} → Holds value mark empty → value ≡ of_bits binary64 0
zero_value unreached = refl

pub zero_mark : {value : Float} {mark : ℕ} → Holds value mark empty → mark ≡ 0
zero_mark unreached = refl

-- areas that are as they came are unused still
pub still :
    {best best' : List Float} {back back' : List ℕ} {cells : ℕ} → best' ≡ best → back' ≡ back → Unused best back cells
    → Unused best' back' cells
still e f unused = rw (e, f) unused
