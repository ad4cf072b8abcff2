-- What is prepared of a stage of a phrase for the search of every candidate.
use Rattle.std.specs.Prelude.{ℕ, zero, suc, ◌+◌, ◌-◌, ◌≤◌, ◌<◌, ◌^◌, ◌≡◌, List, [], ◌∷◌, length, get_or, Float}
use Rattle.laws.specs.Inner.Tables.{table_of}
use Rattle.phrase.specs.Phrase.{Phrase, Stage}
use Rattle.limits.specs.Common.{shortest_unit, durations}
use Rattle.paths.specs.Anchors.{Anchor, kept_in, kept}
use Rattle.paths.specs.Inner.Ranges.{before, last_of}
use Rattle.paths.specs.StageProblem.{boundary}
use Rattle.spans.specs.Spans.{span_of}
use Rattle.frames.specs.declared.span.Span.{Span}
use Rattle.limits.specs.Capacity.{most_boundaries}
use Rattle.stages.specs.declared.stage_parts.StageParts.{StageParts}
use Rattle.stages.specs.Filler.{no_cost}
use Rattle.stages.specs.Parts.{Fills, Searched}
use Rattle.stages.specs.Ranges.{entry_of}
use Rattle.stages.specs.Search.{Reaches, no_span}
use Rattle.stages.specs.declared.stage_tables.StageFigures.{StageFigures}
use Rattle.stages.specs.declared.stage_tables.StageTables.{StageTables as HeldTables}
use Rattle.stages.specs.declared.stage_tables.StageWords.{StageWords}
use Rattle.stages.specs.Tables.{StageTables, Tabled, tables_in}
use Rattle.stages.specs.Made.{tables_of}
use Rattle.record.specs.Meaning.{phrase_of, stage_of}
use Rattle.record.specs.declared.layout.Layout.{Layout}
use Rattle.record.specs.declared.read.Which.{Which}
use Rattle.record.specs.declared.read.Which.TheVariants.{Nuclei, Count}
use Rattle.prepare.specs.declared.stage_read.StageRead.{StageRead}

-- "Rows are nuclei, then anchors."
abbrev pub first_row_in : Layout → Which → ℕ
first_row_in at Nuclei = 0
first_row_in at Count = at.nuclei.count

-- the phrase and the stage of which the boundaries are read
abbrev pub phrase_in : StageRead → Phrase
phrase_in read = phrase_of read.accepted.now.bytes.now

abbrev pub stage_in : StageRead → Stage
stage_in read = stage_of read.which (phrase_in read)

-- the parts are a stage's of a phrase
pub record IsStage (phrase : Phrase) (stage : Stage) (parts : StageParts) : Type 0 where
  pub masked : parts.mask.now ≡ phrase.mask
  pub anchored : parts.anchors.now ≡ stage.anchors
  pub ranked : parts.first_row ≡ stage.first_row
  pub bounded : parts.bounds.now ≡ stage.boundaries

-- "duration tables of 75 f64 for 6 to 80 frames"
abbrev pub durations_of : Stage → List Float
durations_of stage = table_of (λ i. stage.duration (i + shortest_unit)) durations durations no_cost

-- `exact` fixes every entry of the tables, and `tabled` says what they mean.
pub record TablesOf (phrase : Phrase) (stage : Stage) (t : StageTables) : Type 0 where
  pub exact : t
      ≡ tables_of phrase.mask phrase.nuclei.anchors stage.anchors stage.first_row stage.boundaries
      (durations_of stage) phrase.costs
  pub tabled : Tabled phrase stage t

-- ---- the spans of anchors

-- the span of the first of some anchors by listed frames and boundaries
abbrev pub listed_span : List ℕ → List ℕ → ℕ → ℕ → List Anchor → Span
listed_span frames bounds lo hi [] = no_span
listed_span frames bounds lo hi (anchor ∷ more) = span_of frames bounds lo hi anchor.frame

-- by all that the stage lists
unfoldable pub anchor_span : Stage → ℕ → ℕ → List Anchor → Span
anchor_span stage lo hi anchors = listed_span stage.anchors stage.boundaries lo hi anchors

-- the span of the last kept anchor before boundary j
abbrev pub span_before : Phrase → Stage → ℕ → ℕ → ℕ → Span
span_before phrase stage lo hi j = anchor_span stage lo hi (last_of (before (kept phrase stage) (boundary stage j)))

-- frames each of which another can follow
abbrev pub Followed : List ℕ → Type 0
Followed frames = (i : ℕ) → i < length frames → get_or frames i 0 + 1 < 2 ^ 32

-- of the spans of listed anchors, that of the kept one before a place. Rows go by listed places.
abbrev pub listed_before : (ℕ → Span) → List ℕ → ℕ → ℕ → Span
listed_before span rows first zero = no_span
listed_before span rows first (suc place) = span (entry_of rows place - first)

-- the rows before the first n places stand for places of a list of this length
pub record RowsWithin (rows : List ℕ) (first : ℕ) (places : List ℕ) (n long : ℕ) : Type 0 where
  pub placed : Reaches places n (length rows + 1)
  pub from : (j : ℕ) → j < n → 0 < entry_of places j → first ≤ entry_of rows (entry_of places j - 1)
  pub within : (j : ℕ) → j < n → 0 < entry_of places j → entry_of rows (entry_of places j - 1) - first < long

-- the table of the spans, by the place of each boundary among the kept anchors
abbrev pub Spans : List ℕ → List ℕ → ℕ → ℕ → List ℕ → ℕ → List ℕ → List Span → Type 0
Spans anchors bounds lo hi rows first places spans = spans
    ≡ table_of (λ j. listed_before (λ i. span_of anchors bounds lo hi (entry_of anchors i)) rows first (entry_of places j))
    (length bounds) most_boundaries no_span

-- ---- the tables

-- the words of listed and kept anchors and boundaries
pub record Worded (kept : List Anchor) (anchors bounds : List ℕ) (lo hi : ℕ) (words : StageWords) : Type 0 where
  pub searched : Searched kept bounds words
  pub spans : words.spans
      ≡ table_of (λ j. listed_span anchors bounds lo hi (last_of (before kept (get_or bounds j 0)))) (length bounds) most_boundaries no_span

-- those of a stage
abbrev pub WordsOf : Phrase → Stage → ℕ → ℕ → StageWords → Type 0
WordsOf phrase stage lo hi words = Worded (kept phrase stage) stage.anchors stage.boundaries lo hi words

-- and its figures
pub record Figured (phrase : Phrase) (stage : Stage) (figures : StageFigures) : Type 0 where
  pub fills : Fills phrase.costs phrase.mask (kept_in phrase.mask 0 phrase.nuclei.anchors) stage.boundaries
      figures.filler
  pub timed : figures.durations ≡ durations_of stage

-- What is lent of a stage to the search of every candidate, each entry fixed: its tables, and among them the span of the last kept anchor
-- before each boundary.
pub record Prepared (phrase : Phrase) (stage : Stage) (lo hi : ℕ) (held : HeldTables) : Type 0 where
  pub tables : TablesOf phrase stage (tables_in (length stage.boundaries) held.words held.figures)
  pub spans : held.words.spans ≡ table_of (span_before phrase stage lo hi) (length stage.boundaries) most_boundaries no_span
