-- The entry of each answer.
use Rattle.std.proofs.Common.{◌≡◌, length, replicate, ap, ◌∙◌, rules, arith, sym}
use Rattle.std.proofs.lemmas.List.{length-take}
use Rattle.phrase.specs.Inner.Unanchored.{unanchored_units}
use Rattle.decode.specs.Places.{missed_at}
use Rattle.decode.proofs.Scoring.{few_units_law, tables_there, can_place, scored_found, scored_missed}
use Rattle.decode.proofs.decoder.Decoder.score.Goals as goal

pub unwrap-tables-requires : goal.unwrap-tables-requires
unwrap-tables-requires c =
    rw c.pick.ensures
    (tables_there c.args.self.now.accepted.laid c.args.self.now.inputs c.requires.candidate_in_bounds c.in-Ok.found
    (rw c.in-Ok.is at c.requires.says))

pub slice_bounds-path-end : goal.slice_bounds-path-end
slice_bounds-path-end c =
    let long =
    (can_place c.args.self.now.accepted.laid c.args.self.now.inputs c.requires.candidate_in_bounds c.in-Ok.found (rw c.in-Ok.is at c.requires.says) c.unwrap-tables.result
    (sym c.pick.ensures ∙ c.unwrap-tables.ensures) _ c.requires.unit_each).1 in
    omega (arith, long, length-take (length c.args.units.now) c.in-Ok.found.path.units)

pub slice_bounds-report_units-end : goal.slice_bounds-report_units-end
slice_bounds-report_units-end c =
    sym
    (can_place c.args.self.now.accepted.laid c.args.self.now.inputs c.requires.candidate_in_bounds c.in-Ok.found (rw c.in-Ok.is at c.requires.says) c.unwrap-tables.result
    (sym c.pick.ensures ∙ c.unwrap-tables.ensures) _ c.requires.unit_each).1

pub report_units-requires : goal.report_units-requires
report_units-requires c =
    can_place c.args.self.now.accepted.laid c.args.self.now.inputs c.requires.candidate_in_bounds c.in-Ok.found (rw c.in-Ok.is at c.requires.says) c.unwrap-tables.result
    (sym c.pick.ensures ∙ c.unwrap-tables.ensures) _ c.requires.unit_each

pub unanchored_units-total-requires : goal.unanchored_units-total-requires
unanchored_units-total-requires c =
    omega (arith, c.fill.ensures.len, c.requires.unit_each, few_units_law c.args.self.now.accepted.laid c.args.self.now.inputs c.requires.candidate_in_bounds)

pub returns-in-Ok : goal.returns-in-Ok
returns-in-Ok c =
    scored_found c.args.self.now.accepted.laid c.args.self.now.inputs c.requires.candidate_in_bounds c.in-Ok.found (rw c.in-Ok.is at c.requires.says) c.unwrap-tables.result
    (sym c.pick.ensures ∙ c.unwrap-tables.ensures) c.requires.unit_each c.id-id.ensures c.from.ensures c.head_of.ensures c.report_units.ensures

pub returns-in-Err : goal.returns-in-Err
returns-in-Err c =
    let filled : c.fill.new.self ≡ replicate (length c.args.units.now) (missed_at c.args.self.now.plan.edges.start) = search rules in
    scored_missed c.args.self.now.accepted.laid c.args.self.now.inputs c.requires.candidate_in_bounds c.in-Err.missed (rw c.in-Err.is at c.requires.says)
    c.requires.unit_each c.id-id.ensures c.from-in-Err.ensures
    (c.unanchored_units-total.ensures ∙ ap (unanchored_units c.args.self.now.plan.costs) c.fill.ensures.len) c.head_of-in-Err.ensures filled
