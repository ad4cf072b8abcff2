-- Each part is laid in its own table, which is 0 before.
use Rattle.std.proofs.Common.{ℕ, ◌+◌, length, rules, refl}
use Rattle.limits.specs.Capacity.{most_boundaries}
use Rattle.stages.specs.Ranges.{entry_of}
use Rattle.stages.specs.Search.{entry_before}
use Rattle.stages.proofs.Origins.{ranged_ends}
use Rattle.stages.proofs.Written.{front_table}
use Rattle.stages.proofs.search.lay_search.Goals as goal

pub lay_counts-requires : goal.lay_counts-requires
lay_counts-requires c =
    let frames = c.args.frames.now in
    let places = c.args.places.now in
    let few = c.requires.2.short in
    let first = λ (j : ℕ). entry_of frames (entry_of places j) in
    let second = λ (j : ℕ). entry_of frames (entry_of places j + 1) in
    let ends = ranged_ends few (c.lay_ranges.ensures first second (λ i ahead below made. search rules)) in
    (ends.0, ends.1)

pub returns : goal.returns
returns c =
    let n = length c.args.bounds.now in
    let frames = c.args.frames.now in
    let places = c.args.places.now in
    let row = λ (j : ℕ). entry_before c.args.rows.now (entry_of places j) in
    let first = λ (j : ℕ). entry_of frames (entry_of places j) in
    let second = λ (j : ℕ). entry_of frames (entry_of places j + 1) in record {
      bounded = front_table (entry_of c.args.bounds.now) n most_boundaries 0 c.requires.2.short
          (c.write_each.ensures (entry_of c.args.bounds.now) (λ j x below made. search rules));
      ranged = c.lay_ranges.ensures first second (λ i ahead below made. search rules);
      ranks = front_table row n most_boundaries 0 c.requires.2.short (c.write_each-2.ensures row (λ j x below made. search rules));
      spare = refl;
      since = c.lay_counts.ensures;
    }
