-- The total order of floats that are no NaN, in which the ranking compares (document 01, "Spans, marks and order":
-- "Ranking: stable, descending, `total_cmp`"), and the number of a value in it.
use Rattle.std.specs.Prelude.{Bool, false, not, ◌&&◌, ◌||◌, Float}
use Rattle.std.specs.Float.{nan, inf, fin}
use Rattle.std.specs.Float.Ieee.{lt, eq}

-- whether the sign is set, of a zero too
abbrev pub negative : Float → Bool
negative nan = false
negative (inf s) = s
negative (fin s m e) = s

-- x comes before y: it is the smaller number, or the two are equal as numbers, x is -0 and y is +0.
unfoldable pub total_before : Float → Float → Bool
total_before x y = lt x y || (negative x && not (negative y) && eq x y)
