-- The limits of every edition are within the capacities; and the sizes that document 01 gives for edition 1.
use Prim.Native.Nat.{ℕ, suc, ◌*◌, ◌≤◌}
use mathlib.Core.Path.{◌≡◌, refl}
use native.Mathlib.Nat.{mul-le-mul, le_trans}
use native.Mathlib.Omega.{arith}
use lib.Dec.{lit≤}
use Rattle.limits.specs.Capacity.{most_units, most_boundaries, most_candidates, unit_counts, most_cells}
use Rattle.limits.specs.declared.edition.Limits.{Limits}
use Rattle.limits.specs.Edition.{edition1, numbers_of}
use Rattle.limits.specs.Sizes.{candidate_bytes, entry_words, work_cells}
use Rattle.limits.specs.Inner.Moderate.{Moderate}

pub moderate : (edition : ℕ) → Moderate (numbers_of edition)
unfolding numbers_of
moderate edition = record {
  frames = lit≤ tt;
  columns = lit≤ tt;
  candidates = lit≤ tt;
  nuclei = lit≤ tt;
  anchors = lit≤ tt;
  boundaries = lit≤ tt;
  units = lit≤ tt;
}

-- "F ≤ 2,048", whatever the edition
pub frames_2048 : (edition : ℕ) → (numbers_of edition).frames ≤ 2048
unfolding numbers_of
frames_2048 edition = lit≤ tt

-- so the cells and the words of every record have room in arrays of so many
module _ {l : Limits} (m : Moderate l) where
  pub cells_within : work_cells l ≤ most_cells
  cells_within = mul-le-mul {n₁ = suc l.units} {n₂ = unit_counts} {m₂ = most_boundaries} (omega (arith, m.units)) m.boundaries

  pub words_within : {count : ℕ} → count ≤ l.candidates → count * entry_words l.units ≤ most_candidates * entry_words most_units
  words_within few =
      let size : entry_words l.units ≤ entry_words most_units = omega (arith, m.units) in
      mul-le-mul {n₂ = most_candidates} {m₂ = entry_words most_units} (le_trans few m.candidates) size

-- "Candidate, 24 bytes", "from 52 to 54 words" (document 02, Ask 2), "the first 1,088 f64 and 1,088 u32 lent"
candidate_24 : candidate_bytes edition1 ≡ 24
candidate_24 = refl

entry_54 : entry_words edition1.units ≡ 54
entry_54 = refl

cells_1088 : work_cells edition1 ≡ 1088
cells_1088 = refl
