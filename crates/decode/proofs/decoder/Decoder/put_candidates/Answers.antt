use Rattle.std.proofs.Common.{ℕ, List, ◌≡◌, ◌*◌, ◌<◌, ◌++◌, length, drop, ap, refl, ◌∙◌, arith}
use Rattle.limits.specs.Sizes.{entry_words}
use Rattle.laws.proofs.Numbers.{next_row, row_within}
use Rattle.record.specs.Layout.{limits_of}
use Rattle.record.specs.Meaning.{phrase_of}
use Rattle.record.proofs.Reading.{candidate_count}
use Rattle.entries.specs.Entry.{Entry}
use Rattle.entries.specs.Words.{all_words}
use Rattle.entries.specs.Ranking.{ranked}
use Rattle.decode.proofs.InTurn.{held_after, none_held, next_held, every_entry}
use Rattle.decode.proofs.decoder.Decoder.put_candidates.Goals as goal

pub loop-candidate-init : goal.loop-candidate-init
loop-candidate-init c = record {
  values = refl;
  marks = refl;
  held = none_held (limits_of c.args.self.now.accepted.bytes.now).units (phrase_of c.args.self.now.accepted.bytes.now) c.args.out.now;
}

pub put_candidate-requires-clause-number_in_bounds : goal.put_candidate-requires-clause-number_in_bounds
put_candidate-requires-clause-number_in_bounds c = omega (arith, candidate_count c.args.self.now.accepted.laid, c.loop-candidate-test.true)

pub put_candidate-requires-clause-room : goal.put_candidate-requires-clause-room
put_candidate-requires-clause-room c =
    let l = c.loop-candidate in
    let bytes = c.args.self.now.accepted.bytes.now in
    let below : l.candidate < length (phrase_of bytes).candidates =
    omega (arith, candidate_count c.args.self.now.accepted.laid, c.loop-candidate-test.true) in
    let size = entry_words (limits_of bytes).units in
    omega (arith, row_within size below, next_row l.candidate size, l.auto.out, c.requires.room)

pub loop-candidate-preserved : goal.loop-candidate-preserved
loop-candidate-preserved c =
    let l = c.loop-candidate in
    let put = c.put_candidate.ensures in
    let laid = c.args.self.now.accepted.laid in
    record {
      values = put.best_unchanged.0 ∙ l.invariant.values;
      marks = put.best_unchanged.1 ∙ l.invariant.marks;
      held =
          next_held c.args.self.now.accepted.bytes.now laid.accepted l.candidate c.args.out.now
          (omega (arith, candidate_count laid, c.loop-candidate-test.true)) l.invariant.held put.inserted;
    }

pub returns-clause-out_after : goal.returns-clause-out_after
returns-clause-out_after c =
    let l = c.loop-candidate in
    let bytes = c.args.self.now.accepted.bytes.now in
    let phrase = phrase_of bytes in
    let most = (limits_of bytes).units in
    let all : l.candidate ≡ length phrase.candidates = omega (arith, candidate_count c.args.self.now.accepted.laid, l.auto.candidate-end, c.loop-candidate-test.false) in
    l.invariant.held ∙ ap (λ (n : ℕ). held_after most phrase n c.args.out.now) all
    ∙ ap (λ (es : List Entry). all_words most (ranked es) ++ drop (length phrase.candidates * entry_words most) c.args.out.now)
    (every_entry most phrase)
