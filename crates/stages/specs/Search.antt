-- The words of a stage that the search reads, by the place of each boundary among the kept anchors.
use Rattle.std.specs.Prelude.{ℕ, zero, suc, ◌+◌, ◌≤◌, ◌<◌, ◌≡◌, List, length, replicate}
use Rattle.laws.specs.Listed.{listed}
use Rattle.laws.specs.Inner.Tables.{table_of}
use Rattle.paths.specs.Inner.Ranges.{first_reached}
use Rattle.limits.specs.Capacity.{most_boundaries, unit_counts}
use Rattle.stages.specs.declared.by_strictness.ByStrictness.{ByStrictness}
use Rattle.frames.specs.declared.span.Span.{Span}
use Rattle.stages.specs.declared.stage_tables.Origins.{Origins}
use Rattle.stages.specs.declared.stage_tables.StageWords.{StageWords}
use Rattle.stages.specs.Ranges.{entry_of, Ranged}

-- the first n places are places of a list of this length
pub record Reaches (places : List ℕ) (n long : ℕ) : Type 0 where
  pub placed : n ≤ length places
  pub inside : (j : ℕ) → j < n → entry_of places j < long

-- the first n places leave two frames to read
pub record Within (frames places : List ℕ) (n : ℕ) : Type 0 where
  pub some : 0 < length frames
  pub here : Reaches places n (length frames)
  pub next : (j : ℕ) → j < n → entry_of places j + 1 < length frames

-- the entry before a place, 0 before the first
abbrev pub entry_before : List ℕ → ℕ → ℕ
entry_before list zero = 0
entry_before list (suc place) = entry_of list place

-- what each count of units reaches, where the origins of a boundary are from the lowest up to an end
abbrev pub reached_by : List ℕ → List ℕ → ℕ → List ℕ
reached_by low ends n = listed (first_reached (entry_of low) (entry_of ends) n) unit_counts

-- by each strictness
abbrev pub reached_from : Origins → ℕ → ByStrictness unit_counts
reached_from origins n =
    record { strict = reached_by origins.low origins.ends.strict n; relaxed = reached_by origins.low origins.ends.relaxed n }

-- what stands for the span of an anchor where there is none, and spans before they are laid
abbrev pub no_span : Span
no_span = record { start = 0; end = 0 }

abbrev pub no_spans : List Span
no_spans = replicate most_boundaries no_span

-- every word, where the spans are not laid yet
pub record Lays (frames rows places bounds : List ℕ) (words : StageWords) : Type 0 where
  pub bounded : words.bounds ≡ table_of (entry_of bounds) (length bounds) most_boundaries 0
  pub ranged : Ranged bounds (λ j. entry_of frames (entry_of places j)) (λ j. entry_of frames (entry_of places j + 1)) words.origins
  pub ranks : words.rows ≡ table_of (λ j. entry_before rows (entry_of places j)) (length bounds) most_boundaries 0
  pub spare : words.spans ≡ no_spans
  pub since : words.since ≡ reached_from words.origins (length bounds)
