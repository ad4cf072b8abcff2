use Rattle.std.proofs.Common.{length, sym, ap, ◌∙◌}
use Rattle.laws.proofs.Listed.{length_listed}
use Rattle.phrase.specs.Phrase.{Candidate}
use Rattle.record.proofs.Reading.{candidate_there, candidate_is}
use Rattle.reading.proofs.accepted.AcceptedRecord.units.Goals as goal

pub units-requires : goal.units-requires
units-requires c = rw c.candidates.ensures.at (candidate_there c.args.self.now.laid c.requires)

pub returns : goal.returns
returns c =
    let list = c.candidates.ensures in
    c.units.ensures
    ∙ rw (list.limits, list.bytes, list.at) (sym (length_listed _ _) ∙ ap (λ (x : Candidate). length x.columns) (candidate_is c.args.self.now.laid c.requires))
