use Rattle.std.proofs.Common.{◌*◌, arith, ap, ◌∙◌}
use Rattle.limits.specs.Sizes.{entry_words}
use Rattle.limits.specs.Capacity.{most_units}
use Rattle.text.proofs.Putting.{goes_on, done}
use Rattle.printing.specs.Inner.InWords.{all_lines_in}
use Rattle.printing.specs.Rendered.{entry_bytes}
use Rattle.printing.proofs.Turns.{entries_turn, entries_end, whole_first, whole_later}
use Rattle.printing.proofs.lines.put_entries.Goals as goal

pub put_entry-requires-clause-words_in_bounds : goal.put_entry-requires-clause-words_in_bounds
put_entry-requires-clause-words_in_bounds c =
    let was = c.loop-entry.invariant in
    let steps = c.in-Some.ensures.steps in
    let fits = whole_first c.args.most c.next.new.self.n c.in-Some.entry.now c.next.new.self.iter.rest.now (steps.0.1.1 ∙ was.size) steps.1 steps.0.1.0 was.whole in
    omega (arith, fits.few, c.requires.most_le_most_units.0, c.requires.most_le_most_units.1, was.room, was.printing.long, steps.1)

pub put_entry-requires-clause-words_in_bounds_2 : goal.put_entry-requires-clause-words_in_bounds_2
put_entry-requires-clause-words_in_bounds_2 c =
    let was = c.loop-entry.invariant in
    let steps = c.in-Some.ensures.steps in
    let fits = whole_first c.args.most c.next.new.self.n c.in-Some.entry.now c.next.new.self.iter.rest.now (steps.0.1.1 ∙ was.size) steps.1 steps.0.1.0 was.whole in
    omega (arith, fits.few, fits.there)

pub loop-entry-preserved : goal.loop-entry-preserved
loop-entry-preserved c =
    let was = c.loop-entry.invariant in
    let lines = c.put_entry.ensures in
    let steps = c.in-Some.ensures.steps in
    let long = steps.0.1.1 ∙ was.size in
    let fits = whole_first c.args.most c.next.new.self.n c.in-Some.entry.now c.next.new.self.iter.rest.now long steps.1 steps.0.1.0 was.whole in
    record {
      size = steps.0.0 ∙ was.size;
      room = omega (arith, lines.puts.after, lines.puts.short, fits.few, c.requires.most_le_most_units.0, was.room, steps.1);
      whole = whole_later c.args.most c.next.new.self.n c.in-Some.entry.now c.next.new.self.iter.rest.now long steps.1 steps.0.1.0 was.whole;
      printing = goes_on was.printing (entries_turn c.args.most c.next.new.self.n c.in-Some.entry.now c.next.new.self.iter.rest.now long steps.1 steps.0.1.0 was.whole) lines;
    }

pub returns : goal.returns
unfolding all_lines_in
returns c =
    let was = c.loop-entry.invariant in
    let steps = c.in-None.ensures.steps in
    let end = entries_end c.args.most was.whole (λ some. omega (arith, (steps some).1.0, was.size)) in
    let last = c.loop-entry.entry-iterator in
    done {m = entry_bytes most_units * c.args.count} was.printing
    (ap (λ n. all_lines_in (entry_words c.args.most) n last.iter.rest.now) end) (omega (arith, was.room))
