-- A loop that walks a list: what is passed and what is ahead, together.
use mathlib.Core.Bool.{Bool, true, false, ◌||◌}
use mathlib.Core.Path.{◌≡◌, sym, ◌∙◌}

-- a test of all numbers is one of those passed and one of those ahead: one more passed, and none ahead
pub one_tested : (all passed ahead here next : Bool) → all ≡ (passed || ahead) → ahead ≡ (here || next) → all ≡ ((passed || here) || next)
one_tested all true ahead here next e f = e
one_tested all false ahead here next e f = e ∙ f

pub all_tested : (all passed ahead : Bool) → all ≡ (passed || ahead) → ahead ≡ false → passed ≡ all
all_tested all true ahead e f = sym e
all_tested all false ahead e f = sym (e ∙ f)
