-- What is left to write is what was to be written. Each turn writes one unit's line.
use Rattle.std.proofs.Common.{◌+◌, ◌*◌, ◌≤◌, map, drop}
use Rattle.text.proofs.Putting.{Printing}
use Rattle.printing.specs.Listing.{unit_lines}
use Rattle.printing.specs.Inner.InWords.{unit_in}
use Rattle.printing.specs.Rendered.{unit_line_bytes}
use Rattle.printing.proofs.lines.put_units.Given as goal

abbrev pub invariant-loop-start : goal.invariant-loop-start
invariant-loop-start l =
    (l.page.len ≤ l.initial.page.len + unit_line_bytes * l.start-index)
    × Printing l.initial.page (unit_lines (map unit_in l.units)) l.page (unit_lines (map unit_in (drop l.start-index l.units)))
