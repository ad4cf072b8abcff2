use Rattle.std.proofs.Common.{◌∙◌}
use Rattle.spans.proofs.CutEdges.{spans_cut}
use Rattle.spans.proofs.walk.spans_ascending.Goals as goal

pub returns : goal.returns
returns c = c.cut_overlaps.ensures ∙ spans_cut _ _ _ _ c.requires.frames_up _ _ c.uncut.ensures
