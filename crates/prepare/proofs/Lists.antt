-- A list of frames at the front of an array.
use Prim.Native.Nat.{ℕ, ◌≤◌}
use mathlib.Core.Path.{◌≡◌, sym, ap, ◌∙◌}
use mathlib.Core.List.{List}
use native.Mathlib.Omega.{arith}
use lib.ListN.{length, take, drop, length-append}
use lib.Seq.{take-append_seam}
use Rattle.record.specs.Inner.Reading.{Copied}

module _ {xs old new : List ℕ} {count : ℕ} (copied : Copied xs old new count) where
  pub copied_front : take count new ≡ xs
  copied_front =
      ap (λ (n : ℕ). take n new) copied.counted ∙ ap (take (length xs)) copied.buffer ∙ take-append_seam xs (drop (length xs) old)

  pub copied_counted : count ≡ length (take count new)
  copied_counted = copied.counted ∙ ap length (sym copied_front)

  pub copied_within : count ≤ length new
  copied_within = omega (arith, copied.counted, ap length copied.buffer ∙ length-append xs (drop (length xs) old))
