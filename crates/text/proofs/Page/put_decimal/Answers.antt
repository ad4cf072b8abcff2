-- A u32 is below 10^10, so it has ten digits at most.
use Rattle.std.proofs.Common.{refl, ◌∙◌, arith}
use Rattle.text.proofs.Putting.{renamed, started}
use Rattle.text.proofs.Digits.{digits_decimal, ten_digits}
use Rattle.text.proofs.Page.put_decimal.Goals as goal

pub put-requires : goal.put-requires
put-requires c = omega (arith, ten_digits c.ranges.n.fits c.decimal-count.ensures.len)

pub returns : goal.returns
returns c =
    let few = c.decimal-count.ensures.len in
    let same = c.decimal-count.ensures.digits ∙ digits_decimal c.args.n c.decimal-count.result few in
    renamed same (omega (arith, ten_digits c.ranges.n.fits few)) (started c.put.ensures refl (omega arith))
