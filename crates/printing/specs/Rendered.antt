-- What rendering a listing promises, and how much room it asks for.
use Rattle.std.specs.Prelude.{ℕ, ◌+◌, ◌*◌, ◌≤◌, List, ◌++◌, ◌≡◌, length, drop}
use Rattle.limits.specs.Capacity.{most_units, most_candidates}
use Rattle.printing.specs.Listing.{listing_of}

-- The most bytes of each part, where a number is a u32 and so has ten digits at most: "decoded M" or "refused N", the line of a candidate,
-- that of a unit, all lines of an entry with `most` units.
abbrev pub first_line_bytes : ℕ
first_line_bytes = 19

abbrev pub head_line_bytes : ℕ
head_line_bytes = 56

abbrev pub unit_line_bytes : ℕ
unit_line_bytes = 33

abbrev pub entry_bytes : ℕ → ℕ
entry_bytes most = head_line_bytes + unit_line_bytes * most

-- room for the listing of every record, whatever its edition
abbrev pub listing_bytes : ℕ
listing_bytes = first_line_bytes + entry_bytes most_units * most_candidates

-- The listing stands at the front of the buffer, its length is the answer, and the bytes past it are untouched.
pub record Rendered (bytes out : List ℕ) (count : ℕ) (out' : List ℕ) : Type 0 where
  pub counted : count ≡ length (listing_of bytes)
  pub enough : length (listing_of bytes) ≤ listing_bytes
  pub written : out' ≡ listing_of bytes ++ drop (length (listing_of bytes)) out
