-- An input that is longer than any record: it is refused by 1, and a byte more than the longest record has is enough of it to say so.
use Prim.Native.Nat.{ℕ, ◌+◌, ◌<◌}
use mathlib.Core.Bool.{Bool, true, false, ◌||◌}
use mathlib.Core.List.{List}
use mathlib.Core.Option.{Option, some}
use mathlib.Core.Path.{◌≡◌, refl, sym, ap, ◌∙◌}
use native.Mathlib.Omega.{arith}
use borrow.Author.Tests.{lt-ltb}
use lib.Dec.{ltb}
use lib.ListN.{length, take}
use lib.Seq.{take_all, length-take-le}
use Rattle.laws.specs.Rules.{first_of}
use Rattle.laws.proofs.Choices.{taken}
use Rattle.laws.proofs.Numbers.{by_order}
use Rattle.text.specs.Ascii.{ascii, decimal}
use Rattle.record.specs.Format.{trailer_bytes, record_bytes}
use Rattle.record.specs.Refusals.{trailer_rules, first_rules, own_rules, refusal_of}
use Rattle.record.specs.Meaning.{phrase_of}
use Rattle.limits.specs.declared.refusal.Refusal.{Refusal}
use Rattle.limits.specs.declared.refusal.Refusal.TheVariants.{Stub}
use Rattle.printing.specs.Listing.{refused_text, listing_for, listing_of}

or_true : (a : Bool) → (a || true) ≡ true
or_true true = refl
or_true false = refl

too_long : (bytes : List ℕ) → record_bytes < length bytes → refusal_of bytes ≡ some Stub
unfolding refusal_of own_rules first_rules trailer_rules first_of
too_long bytes long =
    let short = ltb (length bytes) trailer_bytes in
    sym (taken _ (ap (λ (over : Bool). short || over) (lt-ltb record_bytes (length bytes) long) ∙ or_true short))

pub long_listing : (bytes : List ℕ) → record_bytes < length bytes → listing_of bytes ≡ ascii "refused 1\n"
unfolding listing_of refused_text decimal
long_listing bytes long = ap (λ (o : Option Refusal). listing_for o (phrase_of bytes)) (too_long bytes long)

-- The program `listing` reads so many bytes at most, and prints the listing of the whole input.
pub first_bytes : (input : List ℕ) → listing_of (take (record_bytes + 1) input) ≡ listing_of input
first_bytes input =
    by_order record_bytes (length input)
    (λ long.
    let cut : length (take (record_bytes + 1) input) ≡ record_bytes + 1 = length-take-le (record_bytes + 1) input (omega arith) in
    long_listing (take (record_bytes + 1) input) (omega arith) ∙ sym (long_listing input long))
    (λ fits. ap listing_of (take_all (record_bytes + 1) input (omega arith)))
