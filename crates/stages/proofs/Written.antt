-- Tables that are written whole, or over the front of spare values.
use Rattle.std.proofs.Common.{◌≡◌, ℕ, ◌≤◌, List, ◌++◌, length, take, drop, replicate, arith, sym, ap, ◌∙◌}
use Rattle.std.proofs.lemmas.List.{append-nil, drop_all, length-take-le}
use Rattle.std.proofs.Math.ListN.{length-replicate}
use Rattle.laws.specs.Listed.{listed}
use Rattle.laws.specs.Inner.Tables.{table_of, written}
use Rattle.laws.proofs.Listed.{written_table, written_full}
use Rattle.laws.proofs.Filling.{Filling, filling_all}

pub filling_whole : {A : Type 0} {f : ℕ → A} {old now : List A} {j : ℕ} → Filling f (length old) old now j → length old ≤ j
    → now ≡ listed f (length old)
filling_whole {A} {f} {old} filling h =
    filling_all filling h
    ∙ ap (λ (rest : List A). listed f (length old) ++ rest) (drop_all (length old) old (omega arith))
    ∙ append-nil (listed f (length old))

-- what is written over the front of spare values is a table
pub front_table : {A : Type 0} (f : ℕ → A) (n size : ℕ) (spare : A) {front : List A} → n ≤ size
    → front ≡ listed f (length (take n (replicate size spare))) → front ++ drop n (replicate size spare) ≡ table_of f n size spare
front_table {A} f n size spare h e =
    ap (λ (xs : List A). xs ++ drop n (replicate size spare))
    (e ∙ ap (listed f) (length-take-le n (replicate size spare) (omega (arith, length-replicate {A = A} size spare))))
    ∙ written_table f n size spare

-- what is written whole is a table with no spare entry
pub whole_table : {A : Type 0} (f : ℕ → A) (n : ℕ) (spare : A) (old : List A) {table : List A} → length old ≡ n
    → table ≡ listed f (length old) → table ≡ table_of f n n spare
whole_table {A} f n spare old long e =
    e
    ∙ sym (append-nil (listed f (length old)))
    ∙ ap (λ (rest : List A). listed f (length old) ++ rest) (sym (drop_all (length old) old (omega arith)))
    ∙ ap (λ (m : ℕ). written f m old) long
    ∙ written_full f n spare old long
