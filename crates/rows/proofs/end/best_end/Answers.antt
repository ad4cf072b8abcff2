-- proofs/Ending.antt has the ends.
use Rattle.std.proofs.Common.{ℕ, sym, ap, ◌∙◌, arith}
use Rattle.paths.specs.Cell.{held, best as best_of}
use Rattle.rows.specs.declared.end.End.{End}
use Rattle.rows.specs.Ends.{ended_by, higher_end}
use Rattle.rows.proofs.Ending.{stopping, chosen_is, first-end, one_more}
use Rattle.rows.proofs.end.best_end.Goals as goal

pub loop-j-init : goal.loop-j-init
loop-j-init c = record {
  begun = omega arith;
  bounded = omega (arith, c.requires.0);
  chosen = λ q stops back cells row reach. first-end stops c.args.best.now back row reach c.requires.0;
}

pub loop-j-preserved : goal.loop-j-preserved
loop-j-preserved c =
    let l = c.loop-j in
    let turning = c.loop-j-test.true in
    record {
      begun = omega (arith, l.invariant.begun);
      bounded = omega arith;
      chosen = λ q stops back cells row reach.
          one_more stops c.args.best.now back row reach l.j l.end turning (omega (arith, l.invariant.begun))
          (l.invariant.chosen q stops back cells row reach)
          ∙ ap (λ (e : End). held (ended_by e)) (sym c.or-end.ensures);
    }

pub returns : goal.returns
returns c q stops back cells row reach =
    let l = c.loop-j in
    sym (l.invariant.chosen q stops back cells row reach)
    ∙ ap (λ (m : ℕ). best_of higher_end m (stopping q cells)) (omega (arith, stops.sized, l.invariant.bounded, c.loop-j-test.false))
    ∙ chosen_is q cells
