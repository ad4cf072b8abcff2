-- Numbers that are written as bytes read back: at the front of a list, past other bytes, and with more bytes behind.
use Prim.Native.Nat.{ℕ, ◌+◌, ◌/◌, ◌%◌, ◌≤◌, ◌<◌}
use mathlib.Core.List.{List, ◌++◌}
use mathlib.Core.Path.{◌≡◌, refl, ap, ◌∙◌}
use native.Mathlib.Nat.{div-div-eq-div-mul}
use native.Mathlib.Omega.{arith}
use lib.ListN.{length, length-append, get_or-append}
use lib.Seq.{get_or-append-add}
use Rattle.record.specs.Bytes.{byte_at, u32_at, u64_at, bytes_of32, bytes_of64}

-- ---- a reader sees neither what stands before its place nor what stands behind its bytes

module _ (before rest : List ℕ) where
  byte_past : (at k : ℕ) → byte_at (before ++ rest) (length before + at + k) ≡ byte_at rest (at + k)
  byte_past at k =
      let place : length before + at + k ≡ length before + (at + k) = omega arith in
      ap (λ (n : ℕ). byte_at (before ++ rest) n) place ∙ get_or-append-add before rest (at + k) 0

  pub u32_past : (at : ℕ) → u32_at (before ++ rest) (length before + at) ≡ u32_at rest at
  unfolding u32_at
  u32_past at = rw (get_or-append-add before rest at 0, byte_past at 1, byte_past at 2, byte_past at 3) refl

  pub u64_past : (at : ℕ) → u64_at (before ++ rest) (length before + at) ≡ u64_at rest at
  unfolding u64_at
  u64_past at =
      let place : length before + at + 4 ≡ length before + (at + 4) = omega arith in
      rw (u32_past at, place, u32_past (at + 4)) refl

module _ (bytes behind : List ℕ) where
  pub u32_within : (at : ℕ) → at + 4 ≤ length bytes → u32_at (bytes ++ behind) at ≡ u32_at bytes at
  unfolding u32_at
  u32_within at h =
      rw (get_or-append bytes behind 0 at (omega arith), get_or-append bytes behind 0 (at + 1) (omega arith), get_or-append bytes behind 0 (at + 2) (omega arith), get_or-append bytes behind 0 (at + 3) (omega arith)) refl

  pub u64_within : (at : ℕ) → at + 8 ≤ length bytes → u64_at (bytes ++ behind) at ≡ u64_at bytes at
  unfolding u64_at
  u64_within at h = rw (u32_within at (omega arith), u32_within (at + 4) (omega arith)) refl

-- ---- the bytes of a number

pub u32_lowest : (n : ℕ) → u32_at (bytes_of32 n) 0 ≡ n % 4294967296
unfolding u32_at
u32_lowest n =
    let second : n / 256 / 256 ≡ n / 65536 = div-div-eq-div-mul n 256 256 in
    let third : n / 65536 / 256 ≡ n / 16777216 = div-div-eq-div-mul n 65536 256 in
    let fourth : n / 16777216 / 256 ≡ n / 4294967296 = div-div-eq-div-mul n 16777216 256 in
    omega arith

u32_front : (n : ℕ) → n < 4294967296 → u32_at (bytes_of32 n) 0 ≡ n
u32_front n h = let low = u32_lowest n in omega arith

u64_front : (n : ℕ) → n < 18446744073709551616 → u64_at (bytes_of64 n) 0 ≡ n
unfolding u64_at
u64_front n h =
    let low : u32_at (bytes_of64 n) 0 ≡ n % 4294967296 = u32_within (bytes_of32 n) (bytes_of32 (n / 4294967296)) 0 (omega arith) ∙ u32_lowest n in
    let high : u32_at (bytes_of64 n) 4 ≡ n / 4294967296 = u32_past (bytes_of32 n) (bytes_of32 (n / 4294967296)) 0 ∙ u32_front (n / 4294967296) (omega arith) in
    omega arith

-- "Little-endian": a number written among other bytes reads back from its place
module _ (before : List ℕ) (n : ℕ) (behind : List ℕ) {at : ℕ} (place : length before ≡ at) where
  pub u32_back : n < 4294967296 → u32_at (before ++ bytes_of32 n ++ behind) at ≡ n
  u32_back h =
      let long = length-append before (bytes_of32 n) in
      let here : at ≡ length before + 0 = omega arith in
      u32_within (before ++ bytes_of32 n) behind at (omega arith)
      ∙ ap (u32_at (before ++ bytes_of32 n)) here
      ∙ u32_past before (bytes_of32 n) 0
      ∙ u32_front n h

  pub u64_back : n < 18446744073709551616 → u64_at (before ++ bytes_of64 n ++ behind) at ≡ n
  u64_back h =
      let long = length-append before (bytes_of64 n) in
      let here : at ≡ length before + 0 = omega arith in
      u64_within (before ++ bytes_of64 n) behind at (omega arith)
      ∙ ap (u64_at (before ++ bytes_of64 n)) here
      ∙ u64_past before (bytes_of64 n) 0
      ∙ u64_front n h
