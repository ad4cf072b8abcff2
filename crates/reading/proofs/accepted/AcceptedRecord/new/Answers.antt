use Rattle.record.proofs.Reading.{sections, candidates_read}
use Rattle.reading.proofs.accepted.AcceptedRecord.new.Goals as goal

pub invariant_of-result : goal.invariant_of-result
invariant_of-result c = record { laid = c.requires; within = sections c.requires; candidates_read = candidates_read c.requires }
