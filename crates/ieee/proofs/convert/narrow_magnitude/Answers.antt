-- Each branch of `narrow_magnitude` is a case of proofs/NarrowCases.antt.
use Rattle.std.proofs.Common.{◌≡◌, ℕ, ◌+◌, ◌-◌, ◌*◌, ◌/◌, ◌%◌, ◌≤◌, false, sym, ap, ◌∙◌, arith}
use lib.Ieee.{Float, binary32, binary64, hid, ones, of_fields, of_bits, to_bits}
use Rattle.ieee.specs.Convert.{narrowed}
use Rattle.ieee.proofs.NarrowFields.{number, magnitude_fields}
use Rattle.ieee.proofs.NarrowCases.{closest_le, to_zero, to_subnormal, to_normal, to_infinite}
use Rattle.ieee.proofs.convert.narrow_magnitude.Goals as goal

by-fields : (m r : ℕ) → m ≤ ones binary64 * hid binary64 → to_bits binary32 (narrowed (of_fields binary64 false (m / hid binary64) (m % hid binary64))) ≡ r
    → r ≡ to_bits binary32 (narrowed (of_bits binary64 m))
by-fields m r h e = sym e ∙ ap (λ (v : Float). to_bits binary32 (narrowed v)) (sym (magnitude_fields m (omega arith)))

pub overflow_add-result : goal.overflow_add-result
overflow_add-result c =
    let t = c.args.m % hid binary64 in
    omega (arith, c.nearest_even-then-exponent-lt-INFINITE.ensures, closest_le (hid binary64 + t) 24 29 (omega arith))

pub returns-then-exponent-lt-SUBNORMAL : goal.returns-then-exponent-lt-SUBNORMAL
returns-then-exponent-lt-SUBNORMAL c =
    let m = c.args.m in
    by-fields m 0 c.requires (to_zero (m / hid binary64) (m % hid binary64) (omega arith) c.if-exponent-lt-SUBNORMAL.true)

pub returns-then-exponent-lt-NORMAL : goal.returns-then-exponent-lt-NORMAL
returns-then-exponent-lt-NORMAL c =
    let m = c.args.m in
    by-fields m c.nearest_even.result c.requires
    (to_subnormal (m / hid binary64) (m % hid binary64) (omega arith) (omega arith) c.if-exponent-lt-NORMAL.true ∙ sym c.nearest_even.ensures)

pub returns-then-exponent-lt-INFINITE : goal.returns-then-exponent-lt-INFINITE
returns-then-exponent-lt-INFINITE c =
    let m = c.args.m in
    by-fields m ((m / hid binary64 - 897) * hid binary32 + c.nearest_even-then-exponent-lt-INFINITE.result) c.requires
    (to_normal (m / hid binary64) (m % hid binary64) (omega arith) c.if-exponent-lt-NORMAL.false c.if-exponent-lt-INFINITE.true
    ∙ ap (λ (q : ℕ). (m / hid binary64 - 897) * hid binary32 + q) (sym c.nearest_even-then-exponent-lt-INFINITE.ensures))

pub returns-else-exponent-lt-INFINITE : goal.returns-else-exponent-lt-INFINITE
returns-else-exponent-lt-INFINITE c =
    let m = c.args.m in
    by-fields m (ones binary32 * hid binary32) c.requires
    (to_infinite (m / hid binary64) (m % hid binary64) (omega arith) c.if-exponent-lt-INFINITE.false (number m c.requires))
