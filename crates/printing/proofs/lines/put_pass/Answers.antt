-- `put_pass`: the word at the pass's number.
use Prim.Native.Nat.{ℕ, ◌≤◌}
use mathlib.Core.List.{[]}
use mathlib.Core.Path.{◌≡◌, sym, ap}
use native.Mathlib.Omega.{arith}
use lib.ListN.{get_or-eq_default}
use Rattle.text.proofs.Putting.{nothing, renamed}
use Rattle.printing.specs.Listing.{pass_words, pass_word}
use Rattle.printing.proofs.lines.put_pass.Goals as goal

no_word : (pass : ℕ) → 6 ≤ pass → pass_word pass ≡ []
unfolding pass_word
no_word pass large = get_or-eq_default pass_words [] large

pub returns-in-0 : goal.returns-in-0
unfolding pass_word
returns-in-0 c = renamed (sym (ap pass_word c.in-0.is)) (omega arith) c.put.ensures

pub returns-in-1 : goal.returns-in-1
unfolding pass_word
returns-in-1 c = renamed (sym (ap pass_word c.in-1.is)) (omega arith) c.put-in-1.ensures

pub returns-in-2 : goal.returns-in-2
unfolding pass_word
returns-in-2 c = renamed (sym (ap pass_word c.in-2.is)) (omega arith) c.put-in-2.ensures

pub returns-in-3 : goal.returns-in-3
unfolding pass_word
returns-in-3 c = renamed (sym (ap pass_word c.in-3.is)) (omega arith) c.put-in-3.ensures

pub returns-in-4 : goal.returns-in-4
unfolding pass_word
returns-in-4 c = renamed (sym (ap pass_word c.in-4.is)) (omega arith) c.put-in-4.ensures

pub returns-in-5 : goal.returns-in-5
unfolding pass_word
returns-in-5 c = renamed (sym (ap pass_word c.in-5.is)) (omega arith) c.put-in-5.ensures

pub returns-in_default : goal.returns-in_default
returns-in_default c = renamed (sym (no_word c.args.pass (omega arith))) (omega arith) (nothing c.args.page.now)
