-- A pattern above an infinity's is not read: what is left is no NaN.
use Rattle.std.proofs.Common.{Bool, not, T, subst}
use lib.Ieee.{binary32}
use lib.Ieee.Bits.{nan_bits_is}
use Rattle.ieee.proofs.Pattern.{number_bits}
use Rattle.ieee_vectors.proofs.f32_of.Goals as goal

pub float_from_bits-result : goal.float_from_bits-result
float_from_bits-result c = number_bits binary32 _ c.if-pattern-gt2139095040.false

pub returns-else-pattern-gt2139095040 : goal.returns-else-pattern-gt2139095040
returns-else-pattern-gt2139095040 c =
    subst (λ (t : Bool). T (not t)) (nan_bits_is binary32 _) (number_bits binary32 _ c.if-pattern-gt2139095040.false)
