-- How large figures and sums may grow, and by how much a path's value may err at each boundary. The numbers are parameters: another edition
-- is another instance.
use Rattle.std.specs.Prelude.{ℕ, zero, suc, ◌+◌, ◌-◌, ◌*◌, ◌^◌, ◌≤◌, ◌<◌, cond, T, leb}
use Rattle.std.specs.Float.{binary64}
use Rattle.std.specs.Float.Ieee.{prec}
use Rattle.exact.specs.Theory.Close.{half_place, Close}
use Rattle.paths.specs.Problem.{Problem}
use Rattle.paths.specs.Theory.Bounded.{Ranges, filler_bound}
use Rattle.distance.specs.ExactSum.{ExactFigures}

-- Figures are below 2 ^ figures. The value of a path is below 2 ^ (figures + sums) up to boundary `early`, and below twice that after it.
pub record Growth : Type 0 where
  pub figures : ℕ
  pub sums : ℕ
  pub early : ℕ

-- a grain: what the result of one operation on figures may err by
abbrev pub grain_of : Growth → ℕ
grain_of g = half_place g.figures

-- by how many powers of two a value at boundary j may be larger than figures are
abbrev pub places_at : Growth → ℕ → ℕ
places_at g j = cond (leb j g.early) g.sums (suc g.sums)

-- The operations inside a figure: a filler cost has three, a unit's value one.
abbrev pub figure_grains : ℕ
figure_grains = 3

-- Grains by which a path's value may err at boundary j: the start's and, at worst, those of a step to each boundary after the first.
unfoldable pub value_grains : Growth → ℕ → ℕ
value_grains g zero = figure_grains
value_grains g (suc j) = value_grains g j + figure_grains + 2 ^ places_at g (suc j)

-- and a path's sum, over so many boundaries
unfoldable pub sum_grains : Growth → ℕ → ℕ
unfolding value_grains
sum_grains g boundaries = value_grains g (boundaries - 1) + figure_grains + 2 ^ suc g.sums

-- what a unit adds at most
abbrev pub unit_bound : Ranges → ℕ
unit_bound most = most.score + most.duration

-- The ranges of a phrase's figures keep to that growth, and no sum errs by more than 2 ^ -digits: a grain is 2 ^ (figures - 54).
pub record Sharp (most : Ranges) (g : Growth) (digits : ℕ) : Type 0 where
  pub frames : most.frames ≤ 2 ^ prec binary64
  pub nuclei : most.nuclei ≤ 2 ^ prec binary64
  pub filler : filler_bound most < 2 ^ g.figures
  pub unit : unit_bound most < 2 ^ g.figures
  pub early : filler_bound most + unit_bound most * g.early < 2 ^ (g.figures + g.sums)
  pub late : filler_bound most + unit_bound most * (most.boundaries - 1) < 2 ^ (g.figures + suc g.sums)
  pub held : g.figures + suc g.sums ≤ prec binary64
  pub enough : sum_grains g most.boundaries * 2 ^ digits ≤ 2 ^ (suc (prec binary64) - g.figures)

-- Whole-number bounds on the filler of a path: what comes before a boundary, in the gap after it, and from it to the end.
pub record Stretches : Type 0 where
  pub before : ℕ → ℕ
  pub gap : ℕ → ℕ
  pub after : ℕ → ℕ

-- The figures of a problem beside the exact ones. Stretches of filler do not overlap, so that all of a path's stay within one bound.
pub record CloseFigures (q : Problem) (x : ExactFigures) (grain filler unit : ℕ) (s : Stretches) : Type 0 where
  pub starts : (i : ℕ) → i < q.size → Close grain (q.start i) (x.start i) (s.before i) figure_grains
  pub gaps : (i : ℕ) → suc i < q.size → Close grain (q.gap_cost i) (x.gap_cost i) (s.gap i) figure_grains
  pub units : (n i j : ℕ) → i < j → j < q.size → T (q.unit_ok i j)
      → Close grain (q.unit_value n i j) (x.unit_value n i j) unit figure_grains
  pub stops : (i : ℕ) → i < q.size → Close grain (q.stop_cost i) (x.stop_cost i) (s.after i) figure_grains
  pub onward : (i : ℕ) → suc i < q.size → s.before i + s.gap i ≤ s.before (suc i)
  pub rising : (i j : ℕ) → i < j → j < q.size → s.before i ≤ s.before j
  pub whole : (i : ℕ) → i < q.size → s.before i + s.after i ≤ filler
