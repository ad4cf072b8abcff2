-- The numbers of the editions: how large the sums of a record get, and that they err by no more than document 02 says.
use Prim.Native.Nat.{ℕ}
use mathlib.Core.Path.{◌≡◌, refl}
use lib.Dec.{lit≤}
use Rattle.limits.specs.Common.{largest_figure, largest_cost}
use Rattle.limits.specs.Edition.{edition1, numbers_of}
use Rattle.decoding.specs.Theory.Ranges.{ranges_of}
use Rattle.distance.specs.Distance.{sum_digits}
use Rattle.distance.specs.Theory.Growth.{Growth, value_grains, sum_grains, Sharp}

-- All filler of a path costs at most 2,080,000 and a unit adds at most 2,000,000, both below 2 ^ 21; with 32 units a sum stays below 2 ^ 26, and
-- with 63 below 2 ^ 27.
abbrev pub growth : Growth
growth = record { figures = 21; sums = 5; early = 32 }

-- 3,267 grains of 2 ^ -33, which is 32 * 2 ^ -28 + 32 * 2 ^ -27 + 195 * 2 ^ -33; 4,096 grains make 2 ^ -21
grains : sum_grains growth edition1.boundaries ≡ 3267
unfolding sum_grains value_grains
grains = refl

pub sharp : (edition : ℕ) → Sharp (ranges_of (numbers_of edition)) growth sum_digits
unfolding numbers_of sum_grains value_grains
sharp edition = record {
  frames = lit≤ tt;
  nuclei = lit≤ tt;
  filler = lit≤ tt;
  unit = lit≤ tt;
  early = lit≤ tt;
  late = lit≤ tt;
  held = lit≤ tt;
  enough = lit≤ tt;
}

-- The same laws at twice the boundaries, with figures as large: 66 * 2 ^ -27 + 62 * 2 ^ -26 + 387 * 2 ^ -33, within 2 ^ -19.
twice_the_boundaries : Sharp
    (record {
      frames = 2048;
      nuclei = 32;
      boundaries = 128;
      per_frame = largest_cost;
      insertion = largest_cost;
      score = largest_figure;
      duration = largest_figure;
    })
    (record { figures = 21; sums = 6; early = 66 }) 19
unfolding sum_grains value_grains
twice_the_boundaries = record {
  frames = lit≤ tt;
  nuclei = lit≤ tt;
  filler = lit≤ tt;
  unit = lit≤ tt;
  early = lit≤ tt;
  late = lit≤ tt;
  held = lit≤ tt;
  enough = lit≤ tt;
}
