-- A section that holds a list of frames.
use Prim.Native.Nat.{ℕ}
use mathlib.Core.List.{List}
use mathlib.Core.Path.{◌≡◌, sym, ap, ◌∙◌}
use lib.ListN.{length}
use Rattle.laws.proofs.Listed.{length_listed}
use Rattle.record.specs.Meaning.{frames_at}
use Rattle.record.specs.Inner.Reading.{over, Copied}
use Rattle.record.specs.declared.layout.Section.{Section}

module _ (bytes : List ℕ) {s there : Section} {xs : List ℕ} (is : s ≡ there) (holds : frames_at bytes there ≡ xs) where
  pub section_long : length xs ≡ s.count
  section_long = ap length (sym holds) ∙ length_listed _ there.count ∙ ap (λ (x : Section). x.count) (sym is)

  pub section_copied : {old new : List ℕ} {count : ℕ} → (count ≡ s.count) × (new ≡ over (frames_at bytes s) old) → Copied xs old new count
  section_copied {old} done =
      record {
        counted = done.0 ∙ sym section_long;
        buffer = done.1 ∙ ap (λ (ys : List ℕ). over ys old) (ap (frames_at bytes) is ∙ holds);
      }
