-- A u32 is below 16^8, so it has eight digits.
use Rattle.std.proofs.Common.{ℕ, ◌∙◌, ap, arith}
use Rattle.io.specs.Digits.{last_digits}
use Rattle.text.specs.Ascii.{hexadecimal}
use Rattle.text.proofs.Putting.{renamed}
use Rattle.text.proofs.Digits.{eight_digits}
use Rattle.text.proofs.Page.put_hexadecimal.Goals as goal

pub put-requires : goal.put-requires
put-requires c = omega (arith, eight_digits c.ranges.n.fits c.hex-width.ensures.len)

pub returns : goal.returns
unfolding hexadecimal
returns c =
    let eight = eight_digits c.ranges.n.fits c.hex-width.ensures.len in
    let same = c.hex-width.ensures.digits ∙ ap (λ (k : ℕ). last_digits 16 k c.args.n) eight in
    renamed same (omega arith) c.put.ensures
