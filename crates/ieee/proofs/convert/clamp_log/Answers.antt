-- `clamp_log` clamps, then narrows; both contracts together are its own.
use Rattle.std.proofs.Common.{◌≡◌, not, T, sym, ap, ◌∙◌, subst}
use lib.Ieee.{Float, binary32, is_nan}
use Rattle.ieee.specs.Convert.{narrowed, clamped_log}
use Rattle.ieee.specs.Inner.Value.{Within}
use Rattle.ieee.proofs.NarrowClamp.{clamped_number, clamped_log_within}
use Rattle.ieee.proofs.convert.clamp_log.Goals as goal

pub narrow-requires : goal.narrow-requires
narrow-requires c = subst (λ (x : Float). T (not (is_nan x))) (sym c.clamp.ensures) (clamped_number c.args.v)

pub returns : goal.returns
unfolding clamped_log
returns c =
    let v = c.args.v in
    let value : c.narrow.result ≡ clamped_log v = c.narrow.ensures.value ∙ ap narrowed c.clamp.ensures in
    record {
      value = value;
      within = subst (λ (x : Float). Within binary32 x 1000000) (sym value) (clamped_log_within v);
    }
