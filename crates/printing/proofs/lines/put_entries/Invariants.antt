-- What is left to write is what was to be written. Each turn writes one entry's lines.
use Rattle.std.proofs.Common.{◌≡◌, ◌+◌, ◌*◌, ◌≤◌}
use Rattle.limits.specs.Sizes.{entry_words}
use Rattle.limits.specs.Capacity.{most_units}
use Rattle.text.proofs.Putting.{Printing}
use Rattle.printing.specs.Inner.InWords.{all_lines_in, AllWhole}
use Rattle.printing.specs.Rendered.{entry_bytes}
use Rattle.printing.proofs.lines.put_entries.Given as goal

abbrev pub invariant-loop-entry : goal.invariant-loop-entry
invariant-loop-entry l =
    record {
      size : l.entry-iterator.iter.size ≡ entry_words l.most;
      room : l.page.len + entry_bytes most_units * l.entry-iterator.n ≤ l.initial.page.len + entry_bytes most_units * l.count;
      whole : AllWhole l.most l.entry-iterator.n l.entry-iterator.iter.rest.now;
      printing :
          Printing l.initial.page (all_lines_in (entry_words l.most) l.count l.words) l.page
          (all_lines_in (entry_words l.most) l.entry-iterator.n l.entry-iterator.iter.rest.now);
    }
