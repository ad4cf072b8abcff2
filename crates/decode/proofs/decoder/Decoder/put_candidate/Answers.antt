-- The search leaves the work areas as they were, and the entry goes to its rank.
use Rattle.std.proofs.Common.{ℕ, ◌≡◌, ◌≤◌, ◌+◌, ◌*◌, ◌∙◌, List, length, subst, sym, arith}
use Rattle.std.proofs.lemmas.List.{length-take-le}
use Rattle.limits.specs.Sizes.{entry_words}
use Rattle.limits.specs.declared.edition.Limits.{Limits}
use Rattle.record.proofs.Accepted.{laid_limits}
use Rattle.record.proofs.Reading.{few_units_law}
use Rattle.entries.specs.Entry.{Entry}
use Rattle.entries.specs.Inner.EntryFrom.{Writable}
use Rattle.entries.specs.Inner.Placing.{Inserted}
use Rattle.decode.proofs.decoder.Decoder.put_candidate.Goals as goal

pub slice_bounds-room-end : goal.slice_bounds-room-end
slice_bounds-room-end c = omega (arith, c.units-k.ensures, few_units_law c.args.self.now.accepted.laid c.requires.number_in_bounds)

pub slice_bounds-units-end : goal.slice_bounds-units-end
slice_bounds-units-end c =
    let few : c.units-k.result ≤ 16 =
    omega (arith, c.units-k.ensures, few_units_law c.args.self.now.accepted.laid c.requires.number_in_bounds) in
    sym (length-take-le c.units-k.result _ few)

pub score-head-requires-clause-unit_each : goal.score-head-requires-clause-unit_each
score-head-requires-clause-unit_each c =
    let few : c.units-k.result ≤ 16 =
    omega (arith, c.units-k.ensures, few_units_law c.args.self.now.accepted.laid c.requires.number_in_bounds) in
    length-take-le c.units-k.result _ few ∙ c.units-k.ensures

pub insert_entry-requires-clause-most_in_bounds : goal.insert_entry-requires-clause-most_in_bounds
insert_entry-requires-clause-most_in_bounds c =
    subst (λ (l : Limits). (c.args.number + 1) * entry_words l.units ≤ length c.args.out.now)
    (sym (c.limits_of.ensures ∙ laid_limits c.args.self.now.accepted.laid)) c.requires.room

pub insert_entry-requires-clause-writable : goal.insert_entry-requires-clause-writable
insert_entry-requires-clause-writable c =
    subst (λ (l : Limits). Writable l.units c.score-head.result c.score-head.new.units)
    (sym (c.limits_of.ensures ∙ laid_limits c.args.self.now.accepted.laid)) c.score-head.ensures.writable

inserted_as : {number : ℕ} {before after : List ℕ} {l l' : Limits} {e e' : Entry} → l ≡ l' → e ≡ e'
    → Inserted l.units number e before after → Inserted l'.units number e' before after
inserted_as {number} {before} {after} same_limits same_entry h = coe 0 1 (i. Inserted (same_limits i).units number (same_entry i) before after) h

pub returns-clause-inserted : goal.returns-clause-inserted
returns-clause-inserted c =
    inserted_as (c.limits_of.ensures ∙ laid_limits c.args.self.now.accepted.laid) c.score-head.ensures.whole c.insert_entry.ensures
