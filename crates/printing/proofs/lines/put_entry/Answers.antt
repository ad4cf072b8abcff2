-- The line of the candidate, then those of its units.
use Rattle.std.proofs.Common.{ℕ, List, ◌≡◌, ◌++◌, ◌-◌, ◌/◌, ◌≤◌, get_or, length, drop, take, map, ap, ◌∙◌, arith, length-take-le, length-drop}
use Rattle.limits.specs.Sizes.{head_words}
use Rattle.text.proofs.Putting.{then, renamed}
use Rattle.printing.specs.Listing.{head_line, unit_lines}
use Rattle.printing.specs.Inner.InWords.{unit_in, units_of, units_in, lines_in}
use Rattle.printing.proofs.Turns.{part_from, units_chunked}
use Rattle.printing.proofs.lines.put_entry.Goals as goal

pub returns : goal.returns
unfolding lines_in
returns c =
    let words = c.args.words.now in
    let count = units_of words in
    let read = c.as_chunks.result.0.now in
    let part : length (take (length words - 6) (drop 6 words)) ≡ length (drop 6 words) = ap length (part_from head_words words) in
    let few : count ≤ length (take (length words - 6) (drop 6 words)) / 3 = omega (arith, part, c.requires.words_in_bounds_2, length-drop 6 words) in
    let counted = length-take-le count read (omega (arith, c.as_chunks.ensures.front_len, few)) in
    let same : map unit_in (take count read) ≡ units_in count (drop head_words words) =
    ap (λ (us : List (List ℕ)). map unit_in (take count us)) c.as_chunks.ensures.front
    ∙ units_chunked count _ _ few
    ∙ ap (units_in count) (part_from head_words words) in
    let line = head_line (get_or words 0 0) (get_or words 1 0) (get_or words 2 0) count in
    let both = then c.put_head.ensures c.put_units.ensures in
    renamed (ap (λ us. line ++ unit_lines us) same) (omega (arith, both.puts.short, counted)) both
