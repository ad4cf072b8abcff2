-- An accepted call writes the entries of all candidates.
use Rattle.std.proofs.Common.{sym, ◌∙◌, arith}
use Rattle.limits.proofs.Editions.{moderate}
use Rattle.record.proofs.Accepted.{counts}
use Rattle.record.proofs.Reading.{candidate_count}
use Rattle.decoding.proofs.Calls.{accepted_call}
use Rattle.decoding.proofs.Decodes.{decodes_accepted}
use Rattle.decode.proofs.decode.decode.Goals as goal

pub new-requires : goal.new-requires
new-requires c = (accepted_call _ _ _ _ _ (sym c.check_areas.ensures ∙ c.in_ok-at.was)).laid

pub decode_accepted-requires : goal.decode_accepted-requires
decode_accepted-requires c =
    let ok = accepted_call _ _ _ _ _ (sym c.check_areas.ensures ∙ c.in_ok-at.was) in
    rw c.new.ensures.bytes (record { values = ok.values; marks = ok.marks; words = ok.words })

pub overflow_cast-result : goal.overflow_cast-result
overflow_cast-result c =
    let ok = accepted_call _ _ _ _ _ (sym c.check_areas.ensures ∙ c.in_ok-at.was) in
    record { fits = omega (arith, (counts ok.laid).candidates, (moderate c.in_ok-at.at.edition).candidates) }

pub returns : goal.returns
returns c =
    let ok = accepted_call _ _ _ _ _ (sym c.check_areas.ensures ∙ c.in_ok-at.was) in
    let left = rw c.new.ensures.bytes at c.decode_accepted.ensures in
    decodes_accepted _ _ _ _ _ ok.none_given (sym (candidate_count ok.laid)) left.words left.values left.marks
