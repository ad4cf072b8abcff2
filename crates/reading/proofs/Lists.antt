-- A part of the bytes as a list.
use Prim.Native.Nat.{ℕ, ◌+◌, ◌≤◌, ◌<◌}
use mathlib.Core.List.{List}
use mathlib.Core.Path.{◌≡◌, sym, subst, subst⁻¹, ◌∙◌}
use native.Mathlib.Omega.{arith}
use lib.ListN.{length, take, drop, length-drop}
use lib.Seq.{ext_get_or, get_or-take, get_or-drop, length-take-le}
use Rattle.laws.proofs.Listed.{length_listed, get_d_listed}
use Rattle.laws.specs.Listed.{listed}
use Rattle.record.specs.Bytes.{byte_at}

pub part_listed : (bytes : List ℕ) (start count : ℕ) → start + count ≤ length bytes → take count (drop start bytes) ≡ listed (λ i. byte_at bytes (start + i)) count
part_listed bytes start count fits =
    let room : count ≤ length (drop start bytes) = subst⁻¹ (λ (n : ℕ). count ≤ n) (length-drop start bytes) (omega arith) in
    let long = length-take-le count (drop start bytes) room in
    ext_get_or 0 _ _ (long ∙ sym (length_listed _ count))
    (λ i below.
    let inside : i < count = subst (λ (n : ℕ). i < n) long below in
    get_or-take count (drop start bytes) i 0 inside ∙ get_or-drop start bytes i 0 ∙ sym (get_d_listed (λ j. byte_at bytes (start + j)) count i 0 inside))
