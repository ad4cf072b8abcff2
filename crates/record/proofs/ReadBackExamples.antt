-- The lowest byte comes first; and numbers written one after the other read back, whatever they are.
use Prim.Native.Nat.{ℕ, ◌<◌}
use mathlib.Core.List.{List, [], ◌∷◌, ◌++◌}
use mathlib.Core.Path.{◌≡◌, refl}
use Rattle.record.specs.Bytes.{u32_at, u64_at, bytes_of32, bytes_of64}
use Rattle.record.proofs.ReadBack.{u32_back, u64_back}

pub lowest_first : bytes_of64 0x0807_0605_0403_0201 ≡ 1 ∷ 2 ∷ 3 ∷ 4 ∷ 5 ∷ 6 ∷ 7 ∷ 8 ∷ []
lowest_first = refl

module _ (a b c : ℕ) where
  -- a u32, a u64 and a u32
  abbrev three : List ℕ
  three = bytes_of32 a ++ bytes_of64 b ++ bytes_of32 c

  pub first_back : a < 4294967296 → u32_at three 0 ≡ a
  first_back h = u32_back [] a (bytes_of64 b ++ bytes_of32 c) refl h

  pub second_back : b < 18446744073709551616 → u64_at three 4 ≡ b
  second_back h = u64_back (bytes_of32 a) b (bytes_of32 c) refl h

  pub third_back : c < 4294967296 → u32_at three 12 ≡ c
  third_back h = u32_back (bytes_of32 a ++ bytes_of64 b) c [] refl h
