-- Room for the spans of an entry.
use Rattle.std.specs.Prelude.{ℕ, ◌*◌, ◌≤◌, false, List, ◌≡◌, length}
use Rattle.limits.specs.Common.{last_frame}
use Rattle.frames.specs.Outcome.{any_above}
use Rattle.frames.specs.Frames.{ascending}

-- What the checks leave for the writing of spans: frames within their limit, and room for a span of each.
pub record Writable (nuclei out : List ℕ) : Type 0 where
  pub within : any_above last_frame nuclei ≡ false
  pub room : 2 * length (ascending nuclei) ≤ length out
