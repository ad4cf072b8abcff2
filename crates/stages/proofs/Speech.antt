-- Speech counts as a walk over the mask's frames makes them.
use Prim.Native.Nat.{ℕ, suc, ◌+◌, ◌-◌, ◌≤◌, min}
use mathlib.Core.Path.{◌≡◌, sym, ap, ap₂, ◌∙◌}
use mathlib.Core.List.{List}
use native.Mathlib.Omega.{arith}
use native.Mathlib.Nat.{sub_self}
use lib.ListN.{length, get_or}
use Rattle.paths.specs.Frames.{weight, speech_from, speech_in}
use Rattle.paths.proofs.Frames.{speech_in_split}

-- one frame more
pub from_next : (mask : List ℕ) (from at : ℕ) → from ≤ at
    → speech_from mask from (at + 1 - from) ≡ speech_from mask from (at - from) + weight (get_or mask at 0)
unfolding speech_from
from_next mask from at h =
    let e : at + 1 - from ≡ suc (at - from) = omega arith in
    let e' : from + (at - from) ≡ at = omega arith in
    ap (speech_from mask from) e ∙ ap (λ (frame : ℕ). speech_from mask from (at - from) + weight (get_or mask frame 0)) e'

pub speech_none : (mask : List ℕ) → 0 ≡ speech_in mask 0 0
unfolding speech_in speech_from
speech_none mask = sym (ap (speech_from mask (min 0 (length mask))) (sub_self (min 0 (length mask))))

-- a count up to `from`, carried on up to `to`
pub speech_on : (mask : List ℕ) (from to : ℕ) {count more : ℕ} → count ≡ speech_in mask 0 from → more ≡ speech_in mask from to
    → min from (length mask) ≤ min to (length mask) → count + more ≡ speech_in mask 0 to
speech_on mask from to e e' h = ap₂ ◌+◌ e e' ∙ sym (speech_in_split mask 0 from to (omega arith) h)
