-- Texts written one after the other, and byte by byte.
use Prim.Native.Nat.{ℕ, ◌+◌, ◌-◌, ◌≤◌, ◌<◌}
use mathlib.Core.List.{List, [], ◌++◌}
use mathlib.Core.Path.{◌≡◌, refl, ap, ap₂, sym, subst, ◌∙◌}
use native.Mathlib.Omega.{arith}
use lib.ListN.{length, take, drop, get_or, length-append, length-take, length-drop}
use lib.Seq.{sets, sets-eq, ext_get_or, get_or-take, get_or-drop}
use Rattle.laws.proofs.Numbers.{by_order}
use Rattle.laws.proofs.Stores.{sets_append}
use Rattle.std.proofs.lemmas.List.{get_or_append_left, get_or-append_right}
use Rattle.std.specs.Borrow.{MutBor}
use Rattle.text.specs.declared.Page.{Page}
use Rattle.text.specs.Inner.Puts.{Prints}

pub nothing : (page : Page) → Prints 0 page [] page
nothing page = record { puts = record { written = refl; after = omega arith; short = omega arith }; long = refl; same_slice = refl }

pub then : {m n : ℕ} {first mid last : Page} {xs ys : List ℕ} → Prints m first xs mid → Prints n mid ys last → Prints (m + n) first (xs ++ ys) last
then {first = first} {xs = xs} {ys = ys} one two = record {
  puts = record {
    written =
        two.puts.written
        ∙ ap₂ (λ (l : List ℕ) (i : ℕ). sets l i ys) one.puts.written one.puts.after
        ∙ sym (sets_append first.bytes.now xs ys first.len);
    after = omega (arith, length-append xs ys);
    short = omega (arith, length-append xs ys);
  };
  long = two.long ∙ one.long;
  same_slice = two.same_slice ∙ one.same_slice;
}

-- the same text by another name, and within other bounds
pub renamed : {m n : ℕ} {page page' : Page} {xs ys : List ℕ} → xs ≡ ys → length xs ≤ n → Prints m page xs page' → Prints n page ys page'
renamed {n = n} {page = page} same few prints = record {
  puts = record {
    written = prints.puts.written ∙ ap (sets page.bytes.now page.len) same;
    after = prints.puts.after ∙ ap (λ (text : List ℕ). page.len + length text) same;
    short = subst (λ (text : List ℕ). length text ≤ n) same few;
  };
  long = prints.long;
  same_slice = prints.same_slice;
}

-- the same page by another name: its slice and its length are what counts
pub started : {m : ℕ} {page page' last : Page} {xs : List ℕ} → Prints m page' xs last → page'.bytes ≡ page.bytes → page'.len ≡ page.len → Prints m page xs last
started {page} {page'} {xs = xs} prints slice place = record {
  puts = record {
    written = prints.puts.written ∙ ap₂ (λ (b : MutBor (List ℕ)) (i : ℕ). sets b.now i xs) slice place;
    after = omega arith;
    short = prints.puts.short;
  };
  long = prints.long ∙ ap (λ (b : MutBor (List ℕ)). length b.now) slice;
  same_slice = prints.same_slice ∙ ap (λ (b : MutBor (List ℕ)). b.ghost_name) slice;
}

-- ---- a text that is written part by part

-- What is left is to be written on this page, and then all of the text is on the first one.
pub record Printing (first : Page) (text : List ℕ) (page : Page) (left : List ℕ) : Type 0 where
  pub writes : sets first.bytes.now first.len text ≡ sets page.bytes.now page.len left
  pub ends : first.len + length text ≡ page.len + length left
  pub long : length page.bytes.now ≡ length first.bytes.now
  pub same_slice : page.bytes.ghost_name ≡ first.bytes.ghost_name

module _ {first : Page} {text : List ℕ} where
  pub goes_on : {m : ℕ} {page page' : Page} {left xs ys : List ℕ} → Printing first text page left → left ≡ xs ++ ys → Prints m page xs page' → Printing first text page' ys
  goes_on {page = page} {xs = xs} {ys = ys} printing parts prints = record {
    writes =
        printing.writes
        ∙ ap (sets page.bytes.now page.len) parts
        ∙ sets_append page.bytes.now xs ys page.len
        ∙ ap₂ (λ (l : List ℕ) (i : ℕ). sets l i ys) (sym prints.puts.written) (sym prints.puts.after);
    ends = omega (arith, ap length parts, length-append xs ys);
    long = prints.long ∙ printing.long;
    same_slice = prints.same_slice ∙ printing.same_slice;
  }

  pub done : {m : ℕ} {page : Page} {left : List ℕ} → Printing first text page left → left ≡ [] → page.len ≤ first.len + m → Prints m first text page
  done {page = page} printing all few =
      let ends : first.len + length text ≡ page.len + 0 = printing.ends ∙ ap (λ (left : List ℕ). page.len + length left) all in
      record {
        puts = record {
          written = sym (printing.writes ∙ ap (sets page.bytes.now page.len) all);
          after = omega arith;
          short = omega arith;
        };
        long = printing.long;
        same_slice = printing.same_slice;
      }

-- ---- a text that is copied into a part of the slice

-- the lengths and the bytes of what is put together from parts
pub ruleset in_parts = (length-append, length-take, length-drop, get_or_append_left, get_or-append_right, get_or-take, get_or-drop)

-- The slice is as long as before and has the text's bytes at the page's place, and every other byte is as it was. Each is a fact on single
-- bytes, so it doesn't matter by which numbers a body reaches them.
pub copied : {page page' : Page} {text : List ℕ} → length page'.bytes.now ≡ length page.bytes.now
    → ((j : ℕ) → j < length text → get_or page'.bytes.now (page.len + j) 0 ≡ get_or text j 0)
    → ((j : ℕ) → j < page.len → get_or page'.bytes.now j 0 ≡ get_or page.bytes.now j 0)
    → ((j : ℕ) → page.len + length text ≤ j → get_or page'.bytes.now j 0 ≡ get_or page.bytes.now j 0) → page'.len ≡ page.len + length text
    → page'.bytes.ghost_name ≡ page.bytes.ghost_name → page.len + length text ≤ length page.bytes.now → Prints (length text) page text page'
copied {page} {page'} {text} long within before behind next slice room =
    let out = page.bytes.now in
    let at = page.len in
    let parts = take at out ++ text ++ drop (at + length text) out in
    let same : page'.bytes.now ≡ parts =
    ext_get_or 0 page'.bytes.now parts (grind (arith, in_parts)) (λ j below.
    by_order j at
    (λ front. grind (arith, in_parts, before j))
    (λ from. by_order j (at + length text) (λ inside. grind (arith, in_parts, within (j - at))) (λ past. grind (arith, in_parts, behind j)))) in
    record {
      puts = record { written = same ∙ sym (sets-eq text out at room); after = next; short = omega arith };
      long = long;
      same_slice = slice;
    }
