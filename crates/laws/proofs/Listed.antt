-- Lists by their entries, and arrays that are filled from the front: one more entry, and what stands where. Assumes nothing.
use Prim.Native.Nat.{ℕ, zero, suc, ◌+◌, ◌-◌, ◌≤◌, ◌<◌, suc-le-suc}
use mathlib.Core.Path.{◌≡◌, refl, sym, ap, ap₂, ◌∙◌}
use mathlib.Core.List.{List, [], ◌∷◌, ◌++◌, append_assoc, append-nil}
use native.Mathlib.Nat.{sub-zero, not-suc-le-zero, le_of_suc-le-suc, zero-lt-suc}
use native.Mathlib.Numerals.{add-one}
use native.Mathlib.Omega.{arith}
use lib.ListN.{length, get_or, drop, set, replicate, length-append, length-drop, length-replicate, get_or-replicate, get_or-append, drop_of_length-le}
use lib.Seq.{set-append_seam, get_or-append-add, drop-cons, drop-length, set_at}
use Rattle.laws.specs.Listed.{listed}
use Rattle.laws.specs.Inner.Tables.{padded, table_of, written}
use Rattle.laws.proofs.Lists.{drop_replicate}

module _ {ℓ} {A : Type ℓ} where
  -- ---- the values of a function

  pub length_listed : (f : ℕ → A) (n : ℕ) → length (listed f n) ≡ n
  unfolding listed
  length_listed f zero = refl
  length_listed f (suc n) = ap suc (length_listed (λ i. f (suc i)) n)

  pub get_d_listed : (f : ℕ → A) (n i : ℕ) (d : A) → i < n → get_or (listed f n) i d ≡ f i
  unfolding listed
  get_d_listed f zero i d h = absurd (not-suc-le-zero h)
  get_d_listed f (suc n) zero d h = refl
  get_d_listed f (suc n) (suc i) d h = get_d_listed (λ j. f (suc j)) n i d (le_of_suc-le-suc h)

  -- one more at the end
  pub listed_more : (f : ℕ → A) (n : ℕ) → listed f (suc n) ≡ listed f n ++ (f n ∷ [])
  unfolding listed
  listed_more f zero = refl
  listed_more f (suc n) = ap (λ (xs : List A). f zero ∷ xs) (listed_more (λ i. f (suc i)) n)

  pub listed_same : (f g : ℕ → A) (n : ℕ) → ((i : ℕ) → i < n → f i ≡ g i) → listed f n ≡ listed g n
  unfolding listed
  listed_same f g zero h = refl
  listed_same f g (suc n) h = ap₂ ◌∷◌ (h 0 (zero-lt-suc n)) (listed_same (λ i. f (suc i)) (λ i. g (suc i)) n (λ i l. h (suc i) (suc-le-suc l)))

  -- ---- a list, then a spare value

  pub padded_none : (size : ℕ) (spare : A) → replicate size spare ≡ padded [] size spare
  unfolding padded
  padded_none size spare = ap (λ (n : ℕ). replicate n spare) (sym (sub-zero size))

  pub padded_more : (xs : List A) (size : ℕ) (spare x : A) → length xs < size
      → set (padded xs size spare) (length xs) x ≡ padded (xs ++ (x ∷ [])) size spare
  unfolding padded
  padded_more xs size spare x h =
      let e : size - length xs ≡ suc (size - suc (length xs)) = omega arith in
      let e' : size - suc (length xs) ≡ size - length (xs ++ (x ∷ [])) = omega (arith, length-append xs (x ∷ [])) in
      ap (λ (n : ℕ). set (xs ++ replicate n spare) (length xs) x) e
      ∙ set-append_seam xs spare (replicate (size - suc (length xs)) spare) x
      ∙ sym (append_assoc xs (x ∷ []) (replicate (size - suc (length xs)) spare))
      ∙ ap (λ (n : ℕ). (xs ++ (x ∷ [])) ++ replicate n spare) e'

  pub padded_in : (xs : List A) (size : ℕ) (spare d : A) (i : ℕ) → i < length xs → get_or (padded xs size spare) i d ≡ get_or xs i d
  unfolding padded
  padded_in xs size spare d i h = get_or-append xs (replicate (size - length xs) spare) d i h

  pub padded_out : (xs : List A) (size : ℕ) (spare d : A) (i : ℕ) → length xs ≤ i → i < size → get_or (padded xs size spare) i d ≡ spare
  unfolding padded
  padded_out xs size spare d i h k =
      let e : i ≡ length xs + (i - length xs) = omega arith in
      ap (λ (n : ℕ). get_or (xs ++ replicate (size - length xs) spare) n d) e
      ∙ get_or-append-add xs (replicate (size - length xs) spare) (i - length xs) d
      ∙ get_or-replicate (size - length xs) (i - length xs) spare d (omega arith)

  pub length_padded : (xs : List A) (size : ℕ) (spare : A) → length xs ≤ size → length (padded xs size spare) ≡ size
  unfolding padded
  length_padded xs size spare h =
      length-append xs (replicate (size - length xs) spare)
      ∙ ap (λ (n : ℕ). length xs + n) (length-replicate (size - length xs) spare)
      ∙ omega arith

  -- ---- the values of a function, then a spare value

  pub table_none : (f : ℕ → A) (size : ℕ) (spare : A) → replicate size spare ≡ table_of f 0 size spare
  unfolding listed
  table_none f size spare = padded_none size spare

  -- a table takes in its next entry
  pub table_more : (f : ℕ → A) (n size : ℕ) (spare x : A) (l : List A) → l ≡ table_of f n size spare → n < size → x ≡ f n
      → set l n x ≡ table_of f (n + 1) size spare
  table_more f n size spare x l filled h e =
      ap (λ (xs : List A). set xs n x) filled
      ∙ ap₂ (set (table_of f n size spare)) (sym (length_listed f n)) e
      ∙ padded_more (listed f n) size spare (f n) (omega (arith, length_listed f n))
      ∙ ap (λ (xs : List A). padded xs size spare) (sym (listed_more f n) ∙ ap (listed f) (sym (add-one n)))

  pub table_at_law : (f : ℕ → A) (n size : ℕ) (spare d : A) (i : ℕ) → i < n → get_or (table_of f n size spare) i d ≡ f i
  table_at_law f n size spare d i h = padded_in (listed f n) size spare d i (omega (arith, length_listed f n)) ∙ get_d_listed f n i d h

  pub length_table : (f : ℕ → A) (n size : ℕ) (spare : A) → n ≤ size → length (table_of f n size spare) ≡ size
  length_table f n size spare h = length_padded (listed f n) size spare (omega (arith, length_listed f n))

  pub table_same : (f g : ℕ → A) (n size : ℕ) (spare : A) → ((i : ℕ) → i < n → f i ≡ g i) → table_of f n size spare ≡ table_of g n size spare
  table_same f g n size spare h = ap (λ (l : List A). padded l size spare) (listed_same f g n h)

  -- ---- the values of a function, written over the front of a list

  pub written_none : (f : ℕ → A) (old : List A) → old ≡ written f 0 old
  unfolding listed
  written_none f old = refl

  pub written_more : (f : ℕ → A) (n : ℕ) (old : List A) → n < length old → set (written f n old) n (f n) ≡ written f (n + 1) old
  written_more f n old h =
      ap (λ (l : List A). set (listed f n ++ l) n (f n)) (drop-cons old n (f n) h)
      ∙ set_at (listed f n) (get_or old n (f n)) (drop (suc n) old) (f n) n (length_listed f n)
      ∙ sym (append_assoc (listed f n) (f n ∷ []) (drop (suc n) old))
      ∙ ap (λ (l : List A). l ++ drop (suc n) old) (sym (listed_more f n))
      ∙ ap (λ (m : ℕ). written f m old) (sym (add-one n))

  pub written_at : (f : ℕ → A) (n : ℕ) (old : List A) (d : A) (i : ℕ) → i < n → get_or (written f n old) i d ≡ f i
  written_at f n old d i h = get_or-append (listed f n) (drop n old) d i (omega (arith, length_listed f n)) ∙ get_d_listed f n i d h

  pub length_written : (f : ℕ → A) (n : ℕ) (old : List A) → n ≤ length old → length (written f n old) ≡ length old
  length_written f n old h = length-append (listed f n) (drop n old) ∙ omega (arith, length_listed f n, length-drop n old)

  -- what is written over spare values is a table
  pub written_table : (f : ℕ → A) (n size : ℕ) (spare : A) → written f n (replicate size spare) ≡ table_of f n size spare
  unfolding padded
  written_table f n size spare =
      ap (λ (ys : List A). listed f n ++ ys)
      (drop_replicate n size spare ∙ ap (λ (m : ℕ). replicate (size - m) spare) (sym (length_listed f n)))

  -- what is written over the whole list is a table with no spare entry
  pub written_full : (f : ℕ → A) (n : ℕ) (spare : A) (old : List A) → length old ≡ n → written f n old ≡ table_of f n n spare
  unfolding padded
  written_full f n spare old e =
      let short : length old ≤ n = omega arith in
      let none : 0 ≡ n - length (listed f n) = omega (arith, length_listed f n) in
      ap (λ (ys : List A). listed f n ++ ys) (drop_of_length-le old short ∙ ap (λ (m : ℕ). replicate m spare) none)

  -- one value written over the whole list
  pub written_same : (spare : A) (old : List A) → written (λ _. spare) (length old) old ≡ replicate (length old) spare
  unfolding listed
  written_same spare old =
      ap₂ (λ (xs ys : List A). xs ++ ys) (same (length old)) (drop-length old) ∙ append-nil (replicate (length old) spare)
    where
      same : (n : ℕ) → listed (λ _. spare) n ≡ replicate n spare
      same zero = refl
      same (suc n) = ap (λ (l : List A). spare ∷ l) (same n)
