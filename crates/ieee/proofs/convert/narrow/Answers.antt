-- `narrow` writes the pattern of `narrowed x`: the sign's bit, and the magnitude's pattern narrowed.
use Rattle.std.proofs.Common.{◌≡◌, ℕ, ◌+◌, ◌*◌, ◌/◌, Bool, not, T, sym, ap, ◌∙◌, subst, arith}
use lib.Ieee.{Float, binary32, binary64, top, of_bits, to_bits, is_nan, fits}
use lib.Ieee.Bits.{to_bits-lt, of_bits-to_bits, nan_bits_is}
use Rattle.ieee.specs.Convert.{narrowed}
use Rattle.ieee.proofs.NarrowFields.{narrowed_fits, narrowed_number, narrowed_bits, magnitude_le}
use Rattle.ieee.proofs.convert.narrow.Goals as goal

held : (c : goal.Start) → T (fits binary64 c.args.x)
held c = subst T (sym c.well_formed.0.1) tt

-- what `from_bits` is handed, and what it reads there
pattern-is : (c : goal.After-narrow_magnitude) → to_bits binary64 c.args.x / top binary64 * top binary32 + c.narrow_magnitude.result ≡ to_bits binary32 (narrowed c.args.x)
pattern-is c =
    ap (λ (n : ℕ). to_bits binary64 c.args.x / top binary64 * top binary32 + n) c.narrow_magnitude.ensures
    ∙ narrowed_bits c.args.x (held c.before) c.requires

read : (c : goal.After-narrow_magnitude) → of_bits binary32 (to_bits binary64 c.args.x / top binary64 * top binary32 + c.narrow_magnitude.result) ≡ narrowed c.args.x
read c = ap (of_bits binary32) (pattern-is c) ∙ of_bits-to_bits binary32 (narrowed c.args.x) (narrowed_fits c.args.x)

is_number : (c : goal.After-narrow_magnitude) → T (not (is_nan (of_bits binary32 (to_bits binary64 c.args.x / top binary64 * top binary32 + c.narrow_magnitude.result))))
is_number c = subst (λ (v : Float). T (not (is_nan v))) (sym (read c)) (narrowed_number c.args.x c.requires)

pub overflow_mul-pattern : goal.overflow_mul-pattern
overflow_mul-pattern c = omega (arith, to_bits-lt binary64 c.args.x (held c))

pub narrow_magnitude-requires : goal.narrow_magnitude-requires
narrow_magnitude-requires c = magnitude_le c.args.x (held c) c.requires

pub overflow_add-pattern : goal.overflow_add-pattern
overflow_add-pattern c = omega (arith, pattern-is c, to_bits-lt binary32 (narrowed c.args.x) (narrowed_fits c.args.x))

pub overflow_cast-result : goal.overflow_cast-result
overflow_cast-result c = omega (arith, pattern-is c, to_bits-lt binary32 (narrowed c.args.x) (narrowed_fits c.args.x))

pub float_from_bits-result : goal.float_from_bits-result
float_from_bits-result c = subst (λ (b : Bool). T (not b)) (sym (nan_bits_is binary32 _)) (is_number c)

pub returns : goal.returns
returns c = record {
  value = read c;
  comparable = record { held = subst (λ (v : Float). T (fits binary32 v)) (sym (read c)) (narrowed_fits c.args.x); number = is_number c };
}
