use lib.Ieee.{binary64, of_bits}
use Rattle.record.specs.Meaning.{phrase_of, stage_of}
use Rattle.record.specs.Inner.Reading.{IsFloat}
use Rattle.record.proofs.Reading.{real_bits}
use Rattle.reading.proofs.Figures.{duration_read}
use Rattle.reading.proofs.accepted.AcceptedRecord.duration.Goals as goal

read : (c : goal.After-u64_at) → IsFloat ((stage_of c.args.which (phrase_of c.args.self.now.bytes.now)).duration c.args.frames) (of_bits binary64 c.u64_at.result)
read c =
    duration_read c.args.self.now.laid c.args.which c.requires.has_table c.args.frames c.requires.shortest_unit_le_frames c.places-table.ensures.table c.u64_at.ensures

pub float_from_bits-result : goal.float_from_bits-result
float_from_bits-result c = real_bits binary64 _ (read c).real

pub returns : goal.returns
returns c = read c
