-- The origins of the units that end at each boundary, by the frames of the first two kept anchors at or after each origin, and what is
-- asked of them for the first boundary that each count of units reaches.
use Rattle.std.specs.Prelude.{ℕ, ◌+◌, ◌-◌, ◌≤◌, ◌<◌, Bool, cond, ◌&&◌, List, ◌≡◌, eqb, leb, ltb, length, get_or, set, replicate}
use Rattle.laws.specs.Inner.Tables.{table_of}
use Rattle.laws.specs.Inner.Range.{first_from, past_last}
use Rattle.paths.specs.Units.{fits_unit}
use Rattle.limits.specs.Capacity.{most_boundaries}
use Rattle.stages.specs.declared.stage_tables.Origins.{Origins}

abbrev pub entry_of : List ℕ → ℕ → ℕ
entry_of table j = get_or table j 0

-- whether there is a unit from boundary i to boundary j: of the right length, and with no second anchor
abbrev pub unit_to : List ℕ → (ℕ → ℕ) → ℕ → ℕ → Bool
unit_to bounds second j i = fits_unit (get_or bounds j 0 - get_or bounds i 0) && leb (get_or bounds j 0) (second i)

-- and whether there is one that holds an anchor
abbrev pub anchored_to : List ℕ → (ℕ → ℕ) → (ℕ → ℕ) → ℕ → ℕ → Bool
anchored_to bounds first second j i = unit_to bounds second j i && ltb (first i) (get_or bounds j 0)

-- Of each boundary the lowest origin, and one past the highest of those whose units hold an anchor and of all.
pub record Ranged (bounds : List ℕ) (first second : ℕ → ℕ) (origins : Origins) : Type 0 where
  pub lows : origins.low ≡ table_of (λ j. first_from 0 (unit_to bounds second j) 0 j) (length bounds) most_boundaries 0
  pub middles : origins.ends.strict ≡ table_of (λ j. past_last (anchored_to bounds first second j) j) (length bounds) most_boundaries 0
  pub highs : origins.ends.relaxed ≡ table_of (λ j. past_last (unit_to bounds second j) j) (length bounds) most_boundaries 0

-- tables in which no unit has an origin yet
abbrev pub no_origins : Origins
no_origins = record {
  low = replicate most_boundaries 0;
  ends = record { strict = replicate most_boundaries 0; relaxed = replicate most_boundaries 0 };
}

-- the tables with an origin i more of boundary j, above those that they have: of a unit that holds an anchor, or of one that holds none
unfoldable pub with_origin : Origins → ℕ → ℕ → Bool → Origins
with_origin origins i j anchored = record {
  low = cond (eqb (get_or origins.ends.relaxed j 0) 0) (set origins.low j i) origins.low;
  ends = record {
    strict = cond anchored (set origins.ends.strict j (i + 1)) origins.ends.strict;
    relaxed = set origins.ends.relaxed j (i + 1);
  };
}

-- the lowest origins of n boundaries, and where the origins of each end, which is not past the boundary
pub record Ends (low ends : List ℕ) (n : ℕ) : Type 0 where
  pub lows : n ≤ length low
  pub tops : n ≤ length ends
  pub earlier : (j : ℕ) → j < n → entry_of ends j ≤ j
