-- The score of units that hold no anchor (document 01, "Spans, marks and order").
use Rattle.std.specs.Prelude.{ℕ, pos, Float}
use Rattle.std.specs.Float.{binary32}
use Rattle.std.specs.Float.Ieee.{mul, of_int}
use Rattle.phrase.specs.declared.costs.Costs.{Costs}

-- "f32 k × unvoiced, widened": an f32 is the same value when it is widened.
abbrev pub unanchored_units : Costs → ℕ → Float
unanchored_units costs k = mul binary32 (of_int binary32 (pos k)) costs.«unvoiced»
