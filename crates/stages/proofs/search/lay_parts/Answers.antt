-- The boundaries are placed among the kept anchors, and the words laid by their places.
use Rattle.stages.proofs.Stage.{kept_placing}
use Rattle.stages.proofs.Searched.{reads_within, reads_rows, searched}
use Rattle.stages.proofs.search.lay_parts.Goals as goal

pub lay_search-requires : goal.lay_search-requires
lay_search-requires c =
    let s = c.args.stage.now in
    let placed = c.requires.placed in
    let p = kept_placing s.mask.now s.first_row s.anchors.now s.fit s.listed s.bounded placed in
    (reads_within p, reads_rows p placed.rowed, s.fit.listed)

pub returns-clause-searched : goal.returns-clause-searched
returns-clause-searched c =
    let s = c.args.stage.now in
    let placed = c.requires.placed in
    let p = kept_placing s.mask.now s.first_row s.anchors.now s.fit s.listed s.bounded placed in
    searched p placed.rowed c.lay_search.ensures
