-- What the readers of an accepted record hand over, in terms of the phrase that it means.
use Rattle.std.specs.Prelude.{ℕ, ◌+◌, ◌*◌, ◌≤◌, ◌<◌, not, List, [], ◌++◌, ◌≡◌, T, length, get_or, drop, Float, Option, Some, None}
use Rattle.std.specs.Float.Ieee.{is_nan}
use Rattle.phrase.specs.Phrase.{Phrase, Candidate, Speech, silent, spoken}
use Rattle.record.specs.Conditions.{f32_at, first_table, second_table}
use Rattle.record.specs.declared.layout.Section.{Section}
use Rattle.record.specs.declared.layout.Layout.{Layout}
use Rattle.record.specs.declared.read.Which.{Which}
use Rattle.record.specs.declared.read.Which.TheVariants.{Nuclei, Count}
use Rattle.record.specs.declared.read.Edges.{Edges}

-- where the two lists of a stage stand, and its duration table
abbrev pub anchor_section : Which → Layout → Section
anchor_section Nuclei at = at.nuclei
anchor_section Count at = at.added_anchors

abbrev pub boundary_section : Which → Layout → Section
boundary_section Nuclei at = at.boundaries
boundary_section Count at = at.added_boundaries

abbrev pub table_start : Which → Layout → ℕ
table_start Nuclei at = first_table at.costs
table_start Count at = second_table at.costs

-- the added stage's table is checked where there is such a stage
abbrev pub HasTable : Which → Phrase → Type 0
HasTable Nuclei phrase = Unit {0}
HasTable Count phrase = 0 < length phrase.added.anchors

-- the speech edges, where a record has some
abbrev pub edges_of : Option Edges → Speech
edges_of None = silent
edges_of (Some edges) = spoken edges.start edges.end

-- candidate i, and one without units past the last
abbrev pub candidate_of : Phrase → ℕ → Candidate
candidate_of phrase i = get_or phrase.candidates i (record { id = 0; columns = [] })

-- a list written over the front of another
abbrev pub over : List ℕ → List ℕ → List ℕ
over xs old = xs ++ drop (length xs) old

-- that was done to a buffer, and its count returned
pub record Copied (xs old new : List ℕ) (count : ℕ) : Type 0 where
  pub counted : count ≡ length xs
  pub buffer : new ≡ over xs old

-- a float that was read: the value, which is no NaN
pub record IsFloat (value r : Float) : Type 0 where
  pub is : r ≡ value
  pub real : T (not (is_nan r))

-- where a row of scores starts
abbrev pub row_start : Layout → ℕ → ℕ
row_start at row = at.scores.start + 4 * (row * at.scores.count)

-- A part of a record from the start of a row on: the row's scores stand at its front.
pub record ScoreRow (columns : ℕ) (score : ℕ → Float) (part : List ℕ) : Type 0 where
  pub long : 4 * columns ≤ length part
  pub entry : (column : ℕ) → column < columns → IsFloat (score column) (f32_at part (4 * column))
