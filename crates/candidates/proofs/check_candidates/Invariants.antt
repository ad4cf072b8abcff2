-- What the rules of the candidates from `i` on find is what all of them find.
use Rattle.std.proofs.Common.{◌≡◌}
use Rattle.laws.specs.Rules.{first_of}
use Rattle.record.specs.Refusals.{candidate_rules}
use Rattle.candidates.proofs.Rules.{rest}
use Rattle.candidates.proofs.check_candidates.Given as goal

abbrev pub invariant-loop-i : goal.invariant-loop-i
invariant-loop-i l = rest l.list.limits l.list.bytes.now l.list.at.candidates.count l.i ≡ first_of (candidate_rules l.list.limits l.list.bytes.now 0 l.list.at.candidates.count)
