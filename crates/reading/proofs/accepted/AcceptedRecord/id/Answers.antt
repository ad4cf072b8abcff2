use Rattle.std.proofs.Common.{ap, ◌∙◌}
use Rattle.phrase.specs.Phrase.{Candidate}
use Rattle.record.proofs.Reading.{candidate_there, candidate_is}
use Rattle.reading.proofs.accepted.AcceptedRecord.id.Goals as goal

pub id-requires : goal.id-requires
id-requires c = rw c.candidates.ensures.at (candidate_there c.args.self.now.laid c.requires)

pub returns : goal.returns
returns c =
    let list = c.candidates.ensures in
    c.id.ensures
    ∙ rw (list.limits, list.bytes, list.at) (ap (λ (x : Candidate). x.id) (candidate_is c.args.self.now.laid c.requires))
