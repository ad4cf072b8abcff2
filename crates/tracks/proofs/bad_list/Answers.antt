use Rattle.std.proofs.Common.{Bool, ℕ, List, [], ◌||◌, false, ltb, ap, ap₂, refl, ◌∙◌, rules, tests}
use Rattle.std.specs.Int.{w32, from_le_bytes}
use Rattle.std.proofs.lemmas.Iterator.{YieldsList-from_slice}
use Rattle.std.proofs.lemmas.Iterator.Consumers.{fold_from_yields_List}
use Rattle.limits.specs.Common.{last_frame}
use Rattle.record.specs.Conditions.{frame_at}
use Rattle.record.proofs.Below.{any_walked}
use Rattle.record.proofs.Numbers.{u32_read}
use Rattle.tracks.proofs.bad_list.Goals as goal

pub returns : goal.returns
returns c =
    let numbers = c.numbers_at-frames in
    let frame = frame_at c.args.bytes.now c.args.s in
    let test = λ (number : List ℕ). ltb last_frame (from_le_bytes w32 number) in
    let late = fold_from_yields_List _ (λ (late : Bool) (number : List ℕ). late || test number) false c.fold-late.result c.fold-late.ensures.ran (YieldsList-from_slice numbers.result.now cc) (λ a x b q k. search (rules, tests))
    ∙ any_walked test (λ k. ltb last_frame (frame k)) [] numbers.result.now numbers.ensures.len (λ k h. ap (ltb last_frame) (u32_read _ _ (numbers.ensures.number k [] h) refl)) in
    ap₂ ◌||◌ late c.unordered.ensures
