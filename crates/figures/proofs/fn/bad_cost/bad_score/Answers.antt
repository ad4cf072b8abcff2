use Rattle.std.proofs.Common.{not, ap}
use Rattle.figures.proofs.Ranges.{score_tested}
use Rattle.figures.proofs.fn.bad_cost.bad_score.Goals as goal

pub returns : goal.returns
returns c = ap not (score_tested c.from_le_bytes.ensures c.within.ensures)
