-- The word at a place is the first one of what stands from there on; where less than a word does, both are 0.
use Rattle.std.proofs.Common.{ℕ, ◌≡◌, ◌+◌, ◌*◌, ◌<◌, ◌≤◌, Bool, true, false, cond, List, length, min, ltb, take, drop, arith, ap, sym, ◌∙◌, refl}
use borrow.Author.Tests.{lt-ltb, le-ltb, ltb-true, ltb-false}
use lib.ListN.{length-drop}
use lib.Seq.{take_all}
use Rattle.std.specs.Int.{w32, from_le_bytes}
use Rattle.record.specs.Bytes.{u32_at}
use Rattle.record.proofs.Numbers.{u32_read}
use Rattle.whole_input.specs.Words.{front_word}
use Rattle.replay.specs.Marks.{mark, word_at}
use Rattle.replay.proofs.marks.word_or_mark.Goals as goal

module _ (bytes : List ℕ) (at : ℕ) where
  front_there : at + 4 ≤ length bytes → front_word (drop at bytes) ≡ word_at bytes at
  front_there there =
      ap (λ (short : Bool). cond short 0 (from_le_bytes w32 (take 4 (drop at bytes))))
      (le-ltb (length (drop at bytes)) 4 (omega (arith, length-drop at bytes, there)))
      ∙ u32_read bytes at refl refl
      ∙ sym (ap (λ (short : Bool). cond short 0 (u32_at bytes at)) (le-ltb (length bytes) (at + 4) there))

  front_short : (from : ℕ) → length bytes < at + 4 → length bytes < from + 4 → front_word (drop from bytes) ≡ word_at bytes at
  front_short from short past =
      ap (λ (short : Bool). cond short 0 (from_le_bytes w32 (take 4 (drop from bytes))))
      (lt-ltb (length (drop from bytes)) 4 (omega (arith, length-drop from bytes, past)))
      ∙ sym (ap (λ (short : Bool). cond short 0 (u32_at bytes at)) (lt-ltb (length bytes) (at + 4) short))

  front_from : (from : ℕ) → from ≡ min (length bytes) at → front_word (drop from bytes) ≡ word_at bytes at
  front_from from e = go (ltb (length bytes) (at + 4)) refl
    where
      go : (short : Bool) → ltb (length bytes) (at + 4) ≡ short → front_word (drop from bytes) ≡ word_at bytes at
      go true short = let less = ltb-true (length bytes) (at + 4) short in front_short from less (omega (arith, e, less))
      go false long =
          let there = ltb-false (length bytes) (at + 4) long in
          let same : from ≡ at = omega (arith, e, there) in
          ap (λ (k : ℕ). front_word (drop k bytes)) same ∙ front_there there

pub returns-then-i-count : goal.returns-then-i-count
returns-then-i-count c =
    let body = c.args.body.now in
    let i = c.args.i in
    let before : i < c.args.count = c.if-i-count.true in
    c.word.ensures.value
    ∙ ap front_word (take_all _ (drop c.min.result body) (omega (arith, length-drop c.min.result body)))
    ∙ front_from body (4 * i) _ c.min.ensures
    ∙ sym (ap (λ (within : Bool). cond within (word_at body (4 * i)) mark) (lt-ltb i c.args.count before))
