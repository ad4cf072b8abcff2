-- How many digits mean anything (document 02, Ask 4): of two f64 sums that differ by more than 2 ^ -20, the larger has the larger exact sum.
use Prim.Native.Nat.{ℕ, ◌*◌, ◌^◌, ◌<◌}
use mathlib.Core.List.{List}
use native.Mathlib.Omega.{arith}
use lib.IntN.{ℤ}
use lib.Ieee.{Float}
use Rattle.exact.specs.Scaled.{scale, scaled}
use Rattle.exact.specs.Apart.{apart, excess}
use Rattle.exact.proofs.Parts.{apart_high, apart_low, excess_from, excess_high}
use Rattle.phrase.specs.Phrase.{Phrase, Stage}
use Rattle.paths.specs.Path.{Path}
use Rattle.distance.specs.ExactSum.{exact_sum}
use Rattle.distance.specs.ExactStage.{exact_of}
use Rattle.distance.specs.Distance.{sum_digits, path_digits, AtMost, NearExact}

told_apart : (a b x y : ℤ) → AtMost (apart a x) sum_digits → AtMost (apart b y) sum_digits → scale < excess a b * 2 ^ path_digits → 0 < excess x y
told_apart a b x y p q h =
    excess_from x y (omega (arith, p, q, h, excess_high a b (omega (arith, h)), apart_high a x, apart_low a x, apart_high b y, apart_low b y))

-- two paths, of one candidate or of two, or of two records
pub larger_sum : {phrase phrase' : Phrase} {stage stage' : Stage} {columns columns' : List ℕ} {path path' : Path} {total total' : Float}
    → NearExact phrase stage columns path total → NearExact phrase' stage' columns' path' total'
    → scale < excess (scaled total) (scaled total') * 2 ^ path_digits
    → 0 < excess (exact_sum (exact_of phrase stage columns) path) (exact_sum (exact_of phrase' stage' columns') path')
larger_sum {phrase} {phrase'} {stage} {stage'} {columns} {columns'} {path} {path'} {total} {total'} p q h =
    told_apart (scaled total) (scaled total') (exact_sum (exact_of phrase stage columns) path) (exact_sum (exact_of phrase' stage' columns') path')
    p.near q.near h
