use Rattle.std.proofs.Common.{ℕ, ◌+◌, ◌<◌, List, [], ◌≡◌, set, length, ap₂, ◌∙◌, arith, rules}
use Rattle.laws.specs.Inner.Tables.{written}
use Rattle.laws.proofs.Listed.{written_none, written_more}
use Rattle.record.specs.Conditions.{frame_at}
use Rattle.record.proofs.Numbers.{u32_read}
use Rattle.reading.proofs.accepted.copy_frames.Goals as goal

-- one more entry, which is the next of f
one_written :
    (f : ℕ → ℕ) (n : ℕ) (old : List ℕ) {now : List ℕ} {value : ℕ} → now ≡ written f n old → value ≡ f n → n < length old →
    set now n value ≡ written f (n + 1) old
one_written f n old is here h = ap₂ (λ (xs : List ℕ) (v : ℕ). set xs n v) is here ∙ written_more f n old h

pub loop-i-init : goal.loop-i-init
loop-i-init c = written_none _ _

pub loop-i-preserved : goal.loop-i-preserved
loop-i-preserved c =
    let there : c.loop-i.i < c.args.s.count = omega arith in
    let number = c.numbers_at-frame-items.ensures.number c.loop-i.i [] there in
    one_written (frame_at c.args.bytes.now c.args.s) c.loop-i.i _ c.loop-i.invariant (search (rules, u32_read)) (omega arith)
