-- What is within a bound is a number.
use Rattle.ieee.proofs.Value.{finite_number}
use Rattle.ieee_vectors.proofs.fn.main.clamps.Goals as goal

pub float_to_bits-result : goal.float_to_bits-result
float_to_bits-result c = finite_number _ c.clamp_log.ensures.within.real.is_finite
