-- "In f64, each operation rounded once": an example that tells it from a filler cost that is rounded once in all.
use mathlib.Core.Path.{◌≡◌, refl}
use mathlib.Core.Bool.{false}
use Prim.Native.Nat.{◌+◌, ◌^◌}
use lib.IntN.{pos, negsuc}
use lib.Ieee.{fin, sub, mul, of_int}
use Rattle.phrase.specs.Filler.{filler_cost}

-- per_frame 1 + 2^-52 over 3 frames is 3 + 3 * 2^-52, which rounds to 3 + 2^-50; less insertion_llr 3 for one nucleus leaves
-- 2^-50. Rounded once in all it would be 3 * 2^-52.
each_operation_rounded : filler_cost
    (record { per_frame = fin false (2 ^ 52 + 1) (negsuc 51); insertion_llr = fin false 3 (pos 0); «unvoiced» = fin false 0 (pos 0) }) 3 1
    ≡ fin false 1 (negsuc 49)
unfolding sub mul of_int
each_operation_rounded = refl
