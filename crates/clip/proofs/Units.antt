-- What the rule says of units as the code holds them.
use Rattle.std.proofs.Common.{◌≡◌, ℕ, cond, List, [], ◌∷◌, map, refl, sym, ap, ◌∙◌, find, is_some, Option, Some, None, Bor}
use Rattle.std.specs.Option.{option_map, option_map_or}
use Rattle.frames.specs.declared.unit.PlacedUnit.{PlacedUnit}
use Rattle.clip.specs.Clip.{next_start}
use Rattle.clip.specs.Inner.Units.{placed_as, placed}

module _ (otherwise : ℕ) where
  first_start_at : (unit : PlacedUnit) (units : List PlacedUnit) (row : Option ℕ)
      → next_start otherwise (map placed units) ≡ option_map_or (λ u. u.span.start) (find (λ u. is_some u.row) units) otherwise
      → next_start otherwise (placed_as row unit.span ∷ map placed units)
      ≡ option_map_or (λ u. u.span.start) (cond (is_some row) (Some unit) (find (λ u. is_some u.row) units)) otherwise
  unfolding next_start
  first_start_at unit units None later = later
  first_start_at unit units (Some row) later = refl

  start_found : (units : List PlacedUnit)
      → next_start otherwise (map placed units) ≡ option_map_or (λ u. u.span.start) (find (λ u. is_some u.row) units) otherwise
  unfolding next_start
  start_found [] = refl
  start_found (unit ∷ units) = first_start_at unit units unit.row (start_found units)

  start_of : (found : Option (Bor PlacedUnit))
      → option_map_or (λ u. u.now.span.start) found otherwise
      ≡ option_map_or (λ u. u.span.start) (option_map (λ u. u.now) found) otherwise
  start_of None = refl
  start_of (Some unit) = refl

  -- the first unit with a row is the one that the gap ends at
  pub next_start_is : (units : List PlacedUnit) (found : Option (Bor PlacedUnit))
      → option_map (λ u. u.now) found ≡ find (λ u. is_some u.row) units
      → option_map_or (λ u. u.now.span.start) found otherwise ≡ next_start otherwise (map placed units)
  next_start_is units found e =
      start_of found ∙ ap (λ (f : Option PlacedUnit). option_map_or (λ u. u.span.start) f otherwise) e ∙ sym (start_found units)
