-- The rules are asked one after the other.
use Rattle.std.proofs.Common.{sym, ◌∙◌}
use Rattle.record.proofs.Sizes.{sized, reaching, inside}
use Rattle.checks.proofs.Trailer.{own_moderate, finds_stub, finds_edition, finds_size, finds_reach, finds_none}
use Rattle.checks.proofs.check_trailer.Goals as goal

pub returns-then-stub : goal.returns-then-stub
returns-then-stub c = finds_stub _ (sym c.stub.ensures ∙ c.if-stub.true)

pub returns-then-other_edition : goal.returns-then-other_edition
returns-then-other_edition c =
    finds_edition _ (sym c.stub.ensures ∙ c.if-stub.false) c.trailer_of-trailer.ensures c.limits_of-limits.ensures
    (sym c.other_edition.ensures ∙ c.if-other_edition.true)

pub returns-then-oversized : goal.returns-then-oversized
returns-then-oversized c =
    finds_size _ (sym c.stub.ensures ∙ c.if-stub.false) c.trailer_of-trailer.ensures c.limits_of-limits.ensures
    (sym c.other_edition.ensures ∙ c.if-other_edition.false) (sym c.oversized.ensures ∙ c.if-oversized.true)

pub overreaching-requires-clause-moderate : goal.overreaching-requires-clause-moderate
overreaching-requires-clause-moderate c =
    own_moderate _ (sym c.stub.ensures ∙ c.if-stub.false) c.trailer_of-trailer.ensures c.limits_of-limits.ensures

pub overreaching-requires-clause-sized : goal.overreaching-requires-clause-sized
overreaching-requires-clause-sized c = sized _ _ (sym c.oversized.ensures ∙ c.if-oversized.false)

pub returns-then-overreaching : goal.returns-then-overreaching
returns-then-overreaching c =
    finds_reach _ (sym c.stub.ensures ∙ c.if-stub.false) c.trailer_of-trailer.ensures c.limits_of-limits.ensures
    (sym c.other_edition.ensures ∙ c.if-other_edition.false) (sym c.oversized.ensures ∙ c.if-oversized.false)
    (sym c.overreaching.ensures ∙ c.if-overreaching.true)

pub laid_out-requires : goal.laid_out-requires
laid_out-requires c = inside _ _ _ (reaching _ _ _ (sym c.overreaching.ensures ∙ c.if-overreaching.false))

pub returns : goal.returns
returns c =
    finds_none _ (sym c.stub.ensures ∙ c.if-stub.false) c.trailer_of-trailer.ensures c.limits_of-limits.ensures
    (sym c.other_edition.ensures ∙ c.if-other_edition.false) (sym c.oversized.ensures ∙ c.if-oversized.false)
    (sym c.overreaching.ensures ∙ c.if-overreaching.false) c.laid_out.ensures
