-- The counts before the boundaries give the costs between them.
use Rattle.std.proofs.Common.{◌≡◌, ℕ, ◌+◌, List, length, replicate, arith, ◌∙◌}
use Rattle.laws.proofs.Listed.{written_table}
use Rattle.laws.specs.Inner.Tables.{table_of, written}
use Rattle.limits.specs.Capacity.{most_edges}
use Rattle.stages.specs.Edges.{speech_before}
use Rattle.stages.proofs.Stage.{kept_placing, speech_ascends, places_ascend, fills}
use Rattle.stages.proofs.filler.lay_filler.Goals as goal

counted : (mask bounds : List ℕ) {counts : List ℕ}
    → counts ≡ written (speech_before mask bounds) (length bounds + 1) (replicate most_edges 0)
    → counts ≡ table_of (speech_before mask bounds) (length bounds + 1) most_edges 0
counted mask bounds is = is ∙ written_table (speech_before mask bounds) (length bounds + 1) most_edges 0

pub lay_costs-requires : goal.lay_costs-requires
lay_costs-requires c =
    let a = c.args in
    let p = kept_placing a.mask.now 0 a.nuclei.now c.requires.0 c.requires.1 (λ j h. omega arith) c.place_anchors-placed.ensures in
    ((speech_ascends p (counted a.mask.now a.bounds.now c.count_speech.ensures), places_ascend p), c.requires.0.listed.short)

pub returns : goal.returns
returns c =
    let a = c.args in
    let p = kept_placing a.mask.now 0 a.nuclei.now c.requires.0 c.requires.1 (λ j h. omega arith) c.place_anchors-placed.ensures in
    fills p (counted a.mask.now a.bounds.now c.count_speech.ensures) c.lay_costs.ensures
