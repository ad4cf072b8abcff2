use Rattle.std.proofs.Common.{ℕ, ◌≡◌, ◌<◌, length}
use Rattle.stages.proofs.Origins.{Done, Targets}
use Rattle.stages.proofs.ranges.lay_ranges.Given as goal

abbrev pub invariant-loop-i : goal.invariant-loop-i
invariant-loop-i g l =
    (first second : ℕ → ℕ)
    → ((i : ℕ) (frames : ℕ × ℕ) → i < length l.bounds → goal.F-post g l.ahead i frames → (frames.0 ≡ first i) × (frames.1 ≡ second i))
    → Done l.bounds first second l.origins l.i

abbrev pub invariant-targets : goal.invariant-targets
invariant-targets g l =
    (first second : ℕ → ℕ)
    → ((i : ℕ) (frames : ℕ × ℕ) → i < length l.bounds → goal.F-post g l.ahead i frames → (frames.0 ≡ first i) × (frames.1 ≡ second i))
    → Targets l.bounds first second l.origins l.i l.j
