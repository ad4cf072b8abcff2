use Rattle.std.proofs.Common.{refl}
use Rattle.figures.proofs.Ranges.{score_tested, cost_tested}
use Rattle.figures.proofs.bad_figures.Goals as goal

pub returns : goal.returns
returns c = rw (cost_tested c.u64_at.ensures c.within.ensures, cost_tested c.u64_at-2.ensures c.within-2.ensures, score_tested c.u32_at.ensures c.within-3.ensures) refl
