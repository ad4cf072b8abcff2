-- A list that is filled from the front while its next entry is still read, and one that is written over twice. Assumes nothing.
use Prim.Native.Nat.{ℕ, ◌+◌, ◌<◌}
use mathlib.Core.Path.{◌≡◌, ap, ◌∙◌}
use mathlib.Core.List.{List, ◌++◌}
use native.Mathlib.Nat.{add-zero}
use native.Mathlib.Omega.{arith}
use lib.ListN.{length, get_or, drop}
use lib.Seq.{set-get_or, drop_at, get_or-append-add, get_or-drop}
use Rattle.laws.specs.Listed.{listed}
use Rattle.laws.specs.Inner.Tables.{written}
use Rattle.laws.proofs.Listed.{length_listed, listed_same}
use Rattle.laws.proofs.Filling.{Filling, filling_more}

module _ {A : Type 0} where
  pub written_alike : (f g : ℕ → A) (n : ℕ) (old : List A) → ((i : ℕ) → i < n → f i ≡ g i) → written f n old ≡ written g n old
  written_alike f g n old h = ap (λ (l : List A). l ++ drop n old) (listed_same f g n h)

  -- of two functions written one after the other, the first leaves no trace
  pub written_over : (f g : ℕ → A) (n : ℕ) (old : List A) → written f n (written g n old) ≡ written f n old
  written_over f g n old = ap (λ (l : List A). listed f n ++ l) (drop_at (listed g n) (drop n old) n (length_listed g n))

  written_next : (f : ℕ → A) (n : ℕ) (old : List A) (d : A) → get_or (written f n old) n d ≡ get_or old n d
  written_next f n old d =
      let place : n ≡ length (listed f n) + 0 = omega (arith, length_listed f n) in
      ap (λ (k : ℕ). get_or (written f n old) k d) place
      ∙ get_or-append-add (listed f n) (drop n old) 0 d
      ∙ get_or-drop n old 0 d
      ∙ ap (λ (k : ℕ). get_or old k d) (add-zero n)

  module _ {f : ℕ → A} {n : ℕ} {old now : List A} {j : ℕ} (d : A) (filling : Filling f n old now j) where
    -- the next entry is as it was
    pub filling_next : get_or now j d ≡ get_or old j d
    filling_next = ap (λ (l : List A). get_or l j d) filling.front ∙ written_next f j old d

    -- where it has its value already, it needs no store
    pub filling_kept : j < n → get_or old j d ≡ f j → Filling f n old now (j + 1)
    filling_kept h e = rw (set-get_or now j d) at (filling_more filling h (filling_next ∙ e))
