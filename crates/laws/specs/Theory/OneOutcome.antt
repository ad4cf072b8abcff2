-- A contract asks nothing impossible and leaves nothing open: exactly one outcome of a call meets it. An outcome is all that a call
-- gives, what it returns and what it leaves in everything lent to it, as one value.
use Rattle.std.specs.Prelude.{◌≡◌}

pub record ExactlyOne {A : Type 0} (Meets : A → Type 0) : Type 0 where
  pub some_outcome : (outcome : A) × Meets outcome
  pub one_outcome : (a b : A) → Meets a → Meets b → a ≡ b
