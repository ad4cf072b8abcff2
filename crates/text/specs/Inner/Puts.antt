-- What a function does that writes a text into a slice of bytes.
use Rattle.std.specs.Prelude.{ℕ, ◌+◌, ◌≤◌, List, ◌≡◌, length}
use Rattle.std.proofs.lemmas.List.Edits.{sets}
use Rattle.text.specs.declared.Page.{Page}

-- The text stands from byte `at` on, every other byte is as it was, and `next` is the byte after it; it has `most` bytes at most.
pub record Puts (most : ℕ) (out : List ℕ) (at : ℕ) (text out' : List ℕ) (next : ℕ) : Type 0 where
  pub written : out' ≡ sets out at text
  pub after : next ≡ at + length text
  pub short : length text ≤ most

-- The page is written on by the text, in the same slice.
pub record Prints (most : ℕ) (page : Page) (text : List ℕ) (page' : Page) : Type 0 where
  pub puts : Puts most page.bytes.now page.len text page'.bytes.now page'.len
  pub long : length page'.bytes.now ≡ length page.bytes.now
  pub same_slice : page'.bytes.ghost_name ≡ page.bytes.ghost_name
