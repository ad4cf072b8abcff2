-- The filler cost, document 01, "How a path is scored":
-- "Filler cost is per_frame × speech count − insertion_llr × nuclei count, in f64, each operation rounded once."
use Rattle.std.specs.Prelude.{ℕ, pos, Float}
use Rattle.std.specs.Float.{binary64}
use Rattle.std.specs.Float.Ieee.{sub, mul, of_int}
use Rattle.phrase.specs.declared.costs.Costs.{Costs}

-- a count as an f64
abbrev pub counted : ℕ → Float
counted n = of_int binary64 (pos n)

abbrev pub filler_cost : Costs → ℕ → ℕ → Float
filler_cost costs speech inserted =
    sub binary64 (mul binary64 costs.per_frame (counted speech)) (mul binary64 costs.insertion_llr (counted inserted))
