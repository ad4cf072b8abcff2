use Rattle.std.proofs.Common.{ℕ, T, not, ap}
use mathlib.Core.Path.{subst⁻¹}
use lib.Ieee.{binary32, of_bits, is_nan}
use Rattle.record.proofs.Reading.{real_bits}
use Rattle.reading.proofs.read.score.Goals as goal

pub float_from_bits-result : goal.float_from_bits-result
float_from_bits-result c =
    real_bits binary32 _ (subst⁻¹ (λ (p : ℕ). T (not (is_nan (of_bits binary32 p)))) c.u32_at.ensures c.requires.t)

pub returns : goal.returns
returns c =
    record {
      is = ap (of_bits binary32) c.u32_at.ensures;
      real = subst⁻¹ (λ (p : ℕ). T (not (is_nan (of_bits binary32 p)))) c.u32_at.ensures c.requires.t;
    }
