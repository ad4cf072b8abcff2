use Rattle.std.proofs.Common.{refl}
use Rattle.record.specs.Conditions.{bad_track}
use Rattle.tracks.proofs.bad_track.Goals as goal

pub returns : goal.returns
unfolding bad_track
returns c = rw (c.bad_mask.ensures, c.bad_list.ensures, c.bad_list-2.ensures, c.bad_list-3.ensures, c.bad_list-4.ensures, c.bad_speech.ensures) refl
