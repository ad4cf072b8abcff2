-- `nearest_even` is `closest m (2 ^ by)`: each branch is one way in which twice the remainder compares with the divisor.
use Rattle.std.proofs.Common.{◌≡◌, ℕ, ◌+◌, ◌*◌, ◌/◌, ◌%◌, ◌^◌, ◌<◌, ◌≤◌, sym, ◌∙◌, subst₂, lt_of_lt_of_le, mod-lt, arith, pow_pos, pow_mono, shr_lt, rules}
use lib.Arith.{lt_of_le-ne}
use Rattle.ieee.proofs.NarrowNearest.{closest_down, closest_tie, closest_up, unit_is, twice_is}
use Rattle.ieee.proofs.convert.nearest_even.Goals as goal

-- dividing by 2 at least leaves room for one more
room : (m by : ℕ) → 0 < by → m < 2 ^ 64 → m / 2 ^ by + 1 < 2 ^ 64
room m by h k = omega (arith, shr_lt {n = m} 63 by (lt_of_lt_of_le k (pow_mono {i = 64} {j = 63 + by} (omega arith))))

pub overflow_sub-twice : goal.overflow_sub-twice
overflow_sub-twice c = omega (arith, unit_is c.args.by c.requires.1, pow_pos c.args.by)

pub overflow_mul-twice : goal.overflow_mul-twice
overflow_mul-twice c = record { fits = omega (arith, twice_is c.args.m c.args.by c.requires.1, mod-lt c.args.m (pow_pos c.args.by), pow_mono {i = c.args.by} {j = 63} (omega arith)) }

pub overflow_add-result : goal.overflow_add-result
overflow_add-result c = record { fits = omega (arith, room c.args.m c.args.by c.requires.0 (search rules)) }

pub overflow_add-result-else-twice-unit-2 : goal.overflow_add-result-else-twice-unit-2
overflow_add-result-else-twice-unit-2 c = record { fits = room c.args.m c.args.by c.requires.0 (search rules) }

pub returns-then-twice-unit : goal.returns-then-twice-unit
returns-then-twice-unit c =
    let m = c.args.m in
    let by = c.args.by in
    closest_down m (2 ^ by) (subst₂ ◌<◌ (twice_is m by c.requires.1) (unit_is by c.requires.1) c.if-twice-unit.true)

pub returns-then-twice-unit-2 : goal.returns-then-twice-unit-2
returns-then-twice-unit-2 c =
    let m = c.args.m in
    let by = c.args.by in
    closest_tie m (2 ^ by) (sym (twice_is m by c.requires.1) ∙ c.if-twice-unit-2.true ∙ unit_is by c.requires.1)

pub returns-else-twice-unit-2 : goal.returns-else-twice-unit-2
returns-else-twice-unit-2 c =
    let m = c.args.m in
    let by = c.args.by in
    closest_up m (2 ^ by)
    (lt_of_le-ne
    (subst₂ ◌≤◌ (unit_is by c.requires.1) (twice_is m by c.requires.1) c.if-twice-unit.false)
    (λ (e : 2 ^ by ≡ m % 2 ^ by * 2). c.if-twice-unit-2.false (twice_is m by c.requires.1 ∙ sym e ∙ sym (unit_is by c.requires.1))))
