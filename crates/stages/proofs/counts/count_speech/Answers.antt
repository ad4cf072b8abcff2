-- The count so far is that up to the boundary before; each stretch is counted once and carried on.
use Rattle.std.proofs.Common.{◌≡◌, ℕ, ◌+◌, length, get_or, set, arith, sym, ap, ◌∙◌}
use Rattle.laws.proofs.Filling.{filling_none, filling_more, filling_all}
use Rattle.paths.specs.Frames.{speech_in}
use Rattle.stages.specs.Edges.{edge}
use Rattle.paths.proofs.Frames.{increasing_le, speech_in_le}
use Rattle.stages.proofs.Edges.{edge_in, edge_end}
use Rattle.stages.proofs.Speech.{speech_none, speech_on}
use Rattle.stages.proofs.counts.count_speech.Goals as goal

pub loop-j-init : goal.loop-j-init
loop-j-init c = (filling_none (omega arith), speech_none c.args.mask.now, λ _. omega arith)

counted : (c : goal.After-speech_in-count)
    → c.loop-j.count + c.speech_in-count.result ≡ speech_in c.args.mask.now 0 (get_or c.args.bounds.now c.loop-j.j 0)
counted c =
    let l = c.loop-j in
    speech_on c.args.mask.now l.from _ l.invariant.1 c.speech_in-count.ensures (omega (arith, l.invariant.2 (omega arith)))

pub overflow_add-count : goal.overflow_add-count
overflow_add-count c = omega (arith, counted c, speech_in_le c.args.mask.now 0 (get_or c.args.bounds.now c.loop-j.j 0))

pub loop-j-preserved : goal.loop-j-preserved
loop-j-preserved c =
    let mask = c.args.mask.now in
    let bounds = c.args.bounds.now in
    let l = c.loop-j in (
      filling_more l.invariant.0 (omega arith) (counted c ∙ ap (speech_in mask 0) (sym (edge_in bounds (length mask) l.j (omega arith)))),
      counted c,
      increasing_le bounds c.requires.2 l.j (l.j + 1) (omega arith),
    )

counted-all : (c : goal.After-speech_in) → c.loop-j.count + c.speech_in.result ≡ speech_in c.args.mask.now 0 (length c.args.mask.now)
counted-all c = speech_on c.args.mask.now c.loop-j.from _ c.loop-j.invariant.1 c.speech_in.ensures (omega arith)

pub overflow_add-counts : goal.overflow_add-counts
overflow_add-counts c = omega (arith, counted-all c, speech_in_le c.args.mask.now 0 (length c.args.mask.now))

-- the last count is that up to the mask's end
pub returns : goal.returns
returns c =
    let mask = c.args.mask.now in
    let bounds = c.args.bounds.now in
    let l = c.loop-j in
    let e : l.j ≡ length bounds = omega arith in
    ap (λ (j : ℕ). set l.counts j (l.count + c.speech_in.result)) (sym e)
    ∙ filling_all
    (filling_more l.invariant.0 (omega arith)
    (counted-all c ∙ ap (speech_in mask 0) (sym (ap (edge bounds (length mask)) e ∙ edge_end bounds (length mask)))))
    (omega arith)
