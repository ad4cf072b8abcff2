use Rattle.std.proofs.Common.{ℕ, take, drop, ap, ◌∙◌}
use native.Mathlib.Nat.{add-sub_cancel_left}
use Rattle.phrase.specs.Phrase.{Phrase}
use Rattle.record.specs.Meaning.{phrase_at}
use Rattle.record.proofs.Accepted.{meaning}
use Rattle.reading.proofs.Lists.{part_listed}
use Rattle.reading.proofs.accepted.AcceptedRecord.mask.Goals as goal

pub returns : goal.returns
unfolding phrase_at
returns c =
    let r = c.args.self.now in
    let s = r.at.mask in
    ap (λ (k : ℕ). take k (drop s.start r.bytes.now)) (add-sub_cancel_left s.start s.count)
    ∙ part_listed r.bytes.now s.start s.count r.within.mask
    ∙ ap (λ (p : Phrase). p.mask) (meaning r.laid)
