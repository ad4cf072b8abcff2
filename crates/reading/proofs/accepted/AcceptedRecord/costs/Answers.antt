use Rattle.reading.proofs.Figures.{costs_read, per_frame_real, insertion_real, unvoiced_real}
use Rattle.reading.proofs.accepted.AcceptedRecord.costs.Goals as goal

pub float_from_bits-result : goal.float_from_bits-result
float_from_bits-result c = per_frame_real c.args.self.now.laid c.u64_at.ensures

pub float_from_bits-result-2 : goal.float_from_bits-result-2
float_from_bits-result-2 c = insertion_real c.args.self.now.laid c.u64_at-2.ensures

pub float_from_bits-result-3 : goal.float_from_bits-result-3
float_from_bits-result-3 c = unvoiced_real c.args.self.now.laid c.u32_at.ensures

pub returns : goal.returns
returns c = costs_read c.args.self.now.laid c.u64_at.ensures c.u64_at-2.ensures c.u32_at.ensures
