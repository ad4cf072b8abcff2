-- Where the rows' spans run in order from a frame on, the reported ones do too.
use Prim.Native.Nat.{ℕ, ◌≤◌, max}
use mathlib.Core.List.{List, [], ◌∷◌}
use native.Mathlib.Omega.{arith}
use Rattle.clip.specs.Clip.{Placed, anchored, unanchored, next_start, clipped, report_after, first_start, reported}
use Rattle.clip.specs.Theory.Order.{RowsInOrder}
use Rattle.frames.specs.Theory.Order.{InOrder}

-- The rows after a gap are in order from any frame of the gap on.
from_gap : (units : List Placed) (low otherwise frame : ℕ) → RowsInOrder low units → frame ≤ max (next_start otherwise units) low → RowsInOrder frame units
unfolding next_start
from_gap [] low otherwise frame rows h = tt
from_gap (anchored row ∷ units) low otherwise frame rows h = (omega (arith, rows.0), rows.1, rows.2)
from_gap (unanchored path ∷ units) low otherwise frame rows h = from_gap units low otherwise frame rows h

in_order_after : (units : List Placed) (low : ℕ) → RowsInOrder low units → InOrder low (report_after low units)
unfolding report_after
in_order_after [] low rows = tt
in_order_after (anchored row ∷ units) low rows = (rows.0, rows.1, in_order_after units row.end rows.2)
in_order_after (unanchored path ∷ units) low rows =
    let span = clipped path low (next_start path.end units) in
    (omega arith, omega arith, in_order_after units span.end (from_gap units low path.end span.end rows (omega arith)))

pub in_order : (units : List Placed) → RowsInOrder (first_start units) units → InOrder (first_start units) (reported units)
unfolding reported
in_order units rows = in_order_after units (first_start units) rows
