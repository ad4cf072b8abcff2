-- The first and the last of some numbers that pass a test.
use Rattle.std.specs.Prelude.{ℕ, zero, suc, Bool, cond}

-- of the n numbers from `at` on the first that passes, or another where none does
unfoldable pub first_from : ℕ → (ℕ → Bool) → ℕ → ℕ → ℕ
first_from other test at zero = other
first_from other test at (suc n) = cond (test at) at (first_from other test (suc at) n)

-- of the numbers below n one past the last that passes, or 0 where none does
unfoldable pub past_last : (ℕ → Bool) → ℕ → ℕ
past_last test zero = 0
past_last test (suc n) = cond (test n) (suc n) (past_last test n)
