-- What the code has room for: the lengths of its arrays.
use Rattle.std.specs.Prelude.{ℕ, ◌+◌, ◌*◌}

abbrev pub most_units : ℕ
most_units = 16

abbrev pub most_boundaries : ℕ
most_boundaries = 64

-- of a stage, nuclei included
abbrev pub most_anchors : ℕ
most_anchors = 64

abbrev pub most_candidates : ℕ
most_candidates = 16

-- the counts of units, none included
abbrev pub unit_counts : ℕ
unit_counts = most_units + 1

-- the cells of a work area
abbrev pub most_cells : ℕ
most_cells = unit_counts * most_boundaries

-- the boundaries, and the mask's end
abbrev pub most_edges : ℕ
most_edges = most_boundaries + 1

-- the anchors, and two frames beyond them
abbrev pub anchor_room : ℕ
anchor_room = most_anchors + 2
