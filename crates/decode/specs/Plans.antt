-- What is looked up once for a phrase, and the tables that stand for its stages.
use Rattle.std.specs.Prelude.{ℕ, true, false, List, ◌≡◌, Option, is_some}
use Rattle.std.specs.Borrow.{Bor}
use Rattle.std.specs.Option.{ForSome}
use Rattle.phrase.specs.Phrase.{Phrase, Stage}
use Rattle.paths.specs.Passes.{non_empty}
use Rattle.record.specs.Meaning.{phrase_of}
use Rattle.stages.specs.declared.stage_tables.StageTables.{StageTables}
use Rattle.closed.specs.Answered.{RunsOf}
use Rattle.prepare.specs.Sides.{Prepared}
use Rattle.decode.specs.declared.plan.Plan.{Plan}
use Rattle.decoding.specs.Report.{low_edge, high_edge}

pub record PlanOf (phrase : Phrase) (plan : Plan) : Type 0 where
  pub costs : plan.costs ≡ phrase.costs
  pub runs : RunsOf phrase plan.runs
  pub low : plan.edges.start ≡ low_edge phrase.speech
  pub high : plan.edges.end ≡ high_edge phrase.speech

-- "The added stage [..] exists exactly when A > 0": else its tables stay as they came.
pub record AddedLaid (phrase : Phrase) (lo hi : ℕ) (tables tables' : StageTables) : Type 0 where
  pub there : non_empty phrase.added.anchors ≡ true → Prepared phrase phrase.added lo hi tables'
  pub lacking : non_empty phrase.added.anchors ≡ false → tables' ≡ tables

-- The tables of a stage are prepared, by the edges of the phrase's speech.
abbrev pub PreparedTables : Phrase → Stage → Bor StageTables → Type 0
PreparedTables phrase stage tables = Prepared phrase stage (low_edge phrase.speech) (high_edge phrase.speech) tables.now

-- What each candidate of an accepted record is decoded with: what was looked up, and the tables of its stages. "The added stage [..] exists
-- exactly when A > 0", and its tables too.
pub record DecodeInputs (bytes : List ℕ) (plan : Plan) (nuclei : Bor StageTables) (added : Option (Bor StageTables)) : Type 0 where
  pub planned : PlanOf (phrase_of bytes) plan
  pub nuclei_prepared : PreparedTables (phrase_of bytes) (phrase_of bytes).nuclei nuclei
  pub added_there : is_some added ≡ non_empty (phrase_of bytes).added.anchors
  pub added_prepared : ForSome added (PreparedTables (phrase_of bytes) (phrase_of bytes).added)
