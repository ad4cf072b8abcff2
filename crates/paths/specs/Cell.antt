-- Cells of a search, whatever is kept in them, and "a later way replaces only when strictly greater" (document 01).
use Rattle.std.specs.Prelude.{ℕ, zero, suc, Bool, cond}

-- Nothing reached the cell, or what is kept of the path that did.
pub data Cell (A : Type 0) : Type 0 where
  empty : Cell A
  held : A → Cell A

-- What a later way does to a cell. `less a b` says whether b is strictly greater than a.
unfoldable pub keep : {A : Type 0} → (A → A → Bool) → Cell A → Cell A → Cell A
keep less empty later = later
keep less (held a) empty = held a
keep less (held a) (held b) = cond (less a b) (held b) (held a)

-- The ways 0 up to but not including m, in this order.
unfoldable pub best : {A : Type 0} → (A → A → Bool) → ℕ → (ℕ → Cell A) → Cell A
unfolding keep
best less zero ways = empty
best less (suc m) ways = keep less (best less m ways) (ways m)

-- A step taken from a cell: none from an empty one.
unfoldable pub carry : {A B : Type 0} → (A → B) → Cell A → Cell B
carry step empty = empty
carry step (held a) = held (step a)

-- A way that is there only if a test passes.
unfoldable pub only : {A : Type 0} → Bool → Cell A → Cell A
only b way = cond b way empty
