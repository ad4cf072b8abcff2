-- The high half fits its word, since the bits of an f64 are 64.
use Rattle.std.proofs.Common.{arith, T, sym, subst}
use Rattle.std.specs.Float.{binary64}
use Rattle.std.specs.Float.Ieee.{fits}
use Rattle.std.specs.Float.Ieee.Bits.{to_bits-lt}
use Rattle.entries.proofs.words.halves.Goals as goal

pub overflow_cast-high : goal.overflow_cast-high
overflow_cast-high c =
    let held : T (fits binary64 c.args.sum) = subst T (sym c.well_formed.0.1) tt in
    omega (arith, to_bits-lt binary64 c.args.sum held)
