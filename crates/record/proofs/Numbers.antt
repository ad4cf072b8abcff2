-- Numbers that are read from the bytes at a place, and a part of the bytes that holds several, one behind another.
use Rattle.std.proofs.Common.{ℕ, zero, suc, ◌+◌, ◌-◌, ◌*◌, ◌≤◌, ◌<◌, List, [], ◌∷◌, ◌≡◌, sym, ap, ◌∙◌, get_or, take, drop, lit<, add-zero, add_assoc, add_comm, mul-suc, arith}
use Rattle.std.specs.Int.{w32, w64, from_le_bytes}
use Rattle.std.specs.Simd.{first_chunks}
use Rattle.std.proofs.lemmas.List.{drop-take, drop-drop, get_or-drop}
use Rattle.record.proofs.Entries.{entry_within}
use lib.Seq.{take-take, get_or-take}
use Rattle.record.specs.Bytes.{byte_at, u32_at, u64_at}

-- ---- at a place

module _ (bytes : List ℕ) (at : ℕ) where
  pub byte_of : (n k : ℕ) → k < n → get_or (take n (drop at bytes)) k 0 ≡ byte_at bytes (at + k)
  byte_of n k h = get_or-take n (drop at bytes) k 0 h ∙ get_or-drop at bytes k 0

  u32_of : from_le_bytes w32 (take 4 (drop at bytes)) ≡ u32_at bytes at
  unfolding u32_at
  u32_of = rw (byte_of 4 0 (lit< tt), byte_of 4 1 (lit< tt), byte_of 4 2 (lit< tt), byte_of 4 3 (lit< tt), add-zero) (omega arith)

  u64_of : from_le_bytes w64 (take 8 (drop at bytes)) ≡ u64_at bytes at
  unfolding u32_at u64_at
  u64_of =
      rw (byte_of 8 0 (lit< tt), byte_of 8 1 (lit< tt), byte_of 8 2 (lit< tt), byte_of 8 3 (lit< tt), byte_of 8 4 (lit< tt), byte_of 8 5 (lit< tt), byte_of 8 6 (lit< tt), byte_of 8 7 (lit< tt)) (simp (add-zero, add_assoc) (omega arith))

  -- what is read from them
  pub u32_read : {number : List ℕ} {n : ℕ} → number ≡ take 4 (drop at bytes) → n ≡ from_le_bytes w32 number → n ≡ u32_at bytes at
  u32_read is read = read ∙ ap (from_le_bytes w32) is ∙ u32_of

  -- from its bytes, one by one
  pub u32_listed : {n : ℕ} → n ≡ from_le_bytes w32 (byte_at bytes at ∷ byte_at bytes (at + 1) ∷ byte_at bytes (at + 2) ∷ byte_at bytes (at + 3) ∷ []) → n ≡ u32_at bytes at
  unfolding u32_at
  u32_listed read = read ∙ omega arith

  pub u64_read : {number : List ℕ} {n : ℕ} → number ≡ take 8 (drop at bytes) → n ≡ from_le_bytes w64 number → n ≡ u64_at bytes at
  u64_read is read = read ∙ ap (from_le_bytes w64) is ∙ u64_of

-- ---- one behind another

chunk_at : (n k i : ℕ) (xs : List ℕ) (d : List ℕ) → i < k → get_or (first_chunks n k xs) i d ≡ take n (drop (n * i) xs)
chunk_at n zero i xs d h = absurd (omega arith)
chunk_at n (suc k) zero xs d h = let none : 0 ≡ n * 0 = omega arith in ap (λ (m : ℕ). take n (drop m xs)) none
chunk_at n (suc k) (suc i) xs d h =
    chunk_at n k i (drop n xs) d (omega arith) ∙ ap (take n) (drop-drop (n * i) n xs ∙ ap (λ (m : ℕ). drop m xs) (add_comm n (n * i) ∙ sym (mul-suc n i)))

-- number i of `count` that stand from a place on, in the m bytes that hold them
pub number_in : (bytes : List ℕ) (at n count m k i : ℕ) (d : List ℕ) → m ≡ n * count → k ≡ count → i < count → get_or (first_chunks n k (take m (drop at bytes))) i d ≡ take n (drop (at + n * i) bytes)
number_in bytes at n count m k i d long many h =
    let room : n * i + n ≤ n * count = entry_within n h in
    let parts : m ≡ n * i + (m - n * i) = omega arith in
    chunk_at n k i _ d (omega arith)
    ∙ ap (λ (j : ℕ). take n (drop (n * i) (take j (drop at bytes)))) parts
    ∙ ap (take n) (drop-take (n * i) (m - n * i) (drop at bytes))
    ∙ take-take n (m - n * i) (drop (n * i) (drop at bytes)) (omega arith)
    ∙ ap (take n) (drop-drop (n * i) at bytes)
