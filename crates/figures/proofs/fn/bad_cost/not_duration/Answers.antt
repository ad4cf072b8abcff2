use Rattle.std.proofs.Common.{not, ap}
use Rattle.figures.proofs.Ranges.{duration_tested}
use Rattle.figures.proofs.fn.bad_cost.not_duration.Goals as goal

pub returns : goal.returns
returns c = ap not (duration_tested c.from_le_bytes.ensures c.nonpositive64.ensures)
