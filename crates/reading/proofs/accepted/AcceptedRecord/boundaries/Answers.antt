use Rattle.std.proofs.Common.{ℕ, ◌≤◌, length, subst}
use Rattle.record.proofs.Reading.{boundaries_are}
use Rattle.reading.proofs.Sections.{section_long, section_copied}
use Rattle.reading.proofs.accepted.AcceptedRecord.boundaries.Goals as goal

pub copy_frames-requires-clause-count_in_bounds_2 : goal.copy_frames-requires-clause-count_in_bounds_2
copy_frames-requires-clause-count_in_bounds_2 c =
    let r = c.args.self.now in
    subst (λ (n : ℕ). n ≤ length c.args.out.now) (section_long r.bytes.now c.places.ensures.boundaries (boundaries_are r.laid c.args.which)) c.requires

pub returns : goal.returns
returns c =
    let r = c.args.self.now in
    section_copied r.bytes.now c.places.ensures.boundaries (boundaries_are r.laid c.args.which) c.copy_frames.ensures
