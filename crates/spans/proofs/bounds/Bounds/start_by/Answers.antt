use Rattle.std.proofs.Common.{◌≡◌, suc, subst, arith}
use Rattle.spans.specs.Inner.Walk.{Splits}
use Rattle.spans.proofs.Splits.{none_before, highest_before}
use Rattle.spans.proofs.bounds.Bounds.start_by.Goals as goal

pub returns-in-Some : goal.returns-in-Some
returns-in-Some c =
    let past : c.args.past ≡ suc c.in-Some.last = omega arith in
    rw (highest_before _ _ c.requires.0 _ (subst (Splits _ _) past c.requires.1))

pub returns-in-None : goal.returns-in-None
returns-in-None c =
    let none : c.args.past ≡ 0 = omega arith in
    rw (none_before _ _ c.requires.0 (subst (Splits _ _) none c.requires.1)) c.min.ensures
