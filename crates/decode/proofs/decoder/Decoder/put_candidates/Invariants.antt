-- After each candidate the output holds the entries so far, ranked, and the work areas are as they were.
use Rattle.std.proofs.Common.{◌≡◌}
use Rattle.record.specs.Layout.{limits_of}
use Rattle.record.specs.Meaning.{phrase_of}
use Rattle.decode.proofs.InTurn.{held_after}
use Rattle.decode.proofs.decoder.Decoder.put_candidates.Given as goal

abbrev pub invariant-loop-candidate : goal.invariant-loop-candidate
invariant-loop-candidate l = record {
  values : l.best ≡ l.initial.best;
  marks : l.back ≡ l.initial.back;
  held : l.out ≡ held_after (limits_of l.self.accepted.bytes.now).units (phrase_of l.self.accepted.bytes.now) l.candidate l.initial.out;
}
