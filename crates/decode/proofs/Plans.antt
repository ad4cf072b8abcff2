-- Whether there is an added stage, and whether a nucleus is in the mask.
use Prim.Native.Nat.{ℕ, ◌<◌}
use mathlib.Core.Bool.{Bool, true, false, not}
use mathlib.Core.List.{List, [], ◌∷◌}
use mathlib.Core.Path.{◌≡◌, refl, sym, ap, subst, ◌∙◌}
use native.Mathlib.Omega.{arith}
use borrow.Author.Tests.{eq-eqb, ne_eqb}
use lib.Dec.{eqb}
use lib.ListN.{length}
use Rattle.laws.proofs.Listed.{length_listed}
use Rattle.phrase.specs.Phrase.{Phrase, Stage}
use Rattle.paths.specs.Anchors.{kept_in}
use Rattle.std.specs.Prelude.{Option, Some, None}
use Rattle.std.specs.Option.{is_some, ForSome}
use Rattle.std.specs.Bool.{then_some}
use Rattle.std.specs.Borrow.{Bor}
use Rattle.paths.specs.Passes.{speaks, non_empty, has_nucleus}
use Rattle.record.specs.Meaning.{phrase_of}
use Rattle.record.specs.Inner.Accepted.{Laid}
use Rattle.record.specs.Inner.Reading.{edges_of}
use Rattle.record.specs.declared.layout.Layout.{Layout}
use Rattle.record.specs.declared.read.Edges.{Edges}
use Rattle.record.specs.declared.read.Which.TheVariants.{Count}
use Rattle.record.proofs.Reading.{nuclei_first, anchors_are}
use Rattle.stages.specs.declared.stage_tables.StageTables.{StageTables}
use Rattle.closed.specs.Answered.{HoldsStage, HoldsAdded}
use Rattle.prepare.specs.Sides.{Prepared}
use Rattle.decode.specs.declared.plan.Plan.{Plan}
use Rattle.decoding.specs.Report.{low_edge, high_edge}
use Rattle.decode.specs.Plans.{PlanOf, PreparedTables}

-- speech is there where its edges are
pub some_speaks : (edges : Option Edges) → is_some edges ≡ speaks (edges_of edges)
some_speaks None = refl
some_speaks (Some edges) = refl

counted_there : (xs : List ℕ) (n : ℕ) → length xs ≡ n → not (eqb n 0) ≡ non_empty xs
counted_there [] n e = ap not (eq-eqb n 0 (sym e))
counted_there (x ∷ xs) n e = ap not (ne_eqb n 0 (λ z. omega arith))

module _ {bytes : List ℕ} {at : Layout} (h : Laid bytes at) where
  added_count : length (phrase_of bytes).added.anchors ≡ at.added_anchors.count
  added_count = ap length (sym (anchors_are h Count)) ∙ length_listed _ at.added_anchors.count

  pub some_added : (at.added_anchors.count ≡ 0 → ⊥) → 0 < length (phrase_of bytes).added.anchors
  some_added some = go (phrase_of bytes).added.anchors added_count
    where
      go : (xs : List ℕ) → length xs ≡ at.added_anchors.count → 0 < length xs
      go [] e = absurd (some (sym e))
      go (x ∷ xs) e = omega arith

  pub runs_added : not (eqb at.added_anchors.count 0) ≡ non_empty (phrase_of bytes).added.anchors
  runs_added = counted_there (phrase_of bytes).added.anchors at.added_anchors.count added_count

  pub none_added : at.added_anchors.count ≡ 0 → non_empty (phrase_of bytes).added.anchors ≡ false
  none_added none = sym runs_added ∙ ap not (eq-eqb _ 0 none)

  pub one_added : (at.added_anchors.count ≡ 0 → ⊥) → non_empty (phrase_of bytes).added.anchors ≡ true
  one_added some = sym runs_added ∙ ap not (ne_eqb _ 0 some)

  pub runs_voiced : {mask nuclei : List ℕ} → mask ≡ (phrase_of bytes).mask → nuclei ≡ (phrase_of bytes).nuclei.anchors
      → non_empty (kept_in mask 0 nuclei) ≡ has_nucleus (phrase_of bytes)
  unfolding has_nucleus
  runs_voiced masked inserted i = non_empty (kept_in (masked i) (sym (nuclei_first bytes) i) (inserted i))

-- by the edges looked up
pub prepared_by : {phrase : Phrase} {plan : Plan} {stage : Stage} {tables : StageTables} → PlanOf phrase plan
    → Prepared phrase stage plan.edges.start plan.edges.end tables
    → Prepared phrase stage (low_edge phrase.speech) (high_edge phrase.speech) tables
prepared_by {phrase} {stage = stage} {tables = tables} planned prepared =
    coe 0 1 (i. Prepared phrase stage (planned.low i) (planned.high i) tables) prepared

-- prepared tables of a stage are its tables
pub stage_lists : {phrase : Phrase} {stage : Stage} (tables : Bor StageTables) → PreparedTables phrase stage tables
    → HoldsStage phrase stage tables.now
stage_lists tables prepared = prepared.tables.tabled

pub added_lists : {phrase : Phrase} (added : Option (Bor StageTables)) → is_some added ≡ non_empty phrase.added.anchors
    → ForSome added (PreparedTables phrase phrase.added) → HoldsAdded phrase added
added_lists None there prepared = sym there
added_lists (Some tables) there prepared = (sym there, stage_lists tables (prepared tables refl))

-- the tables of the added stage, where there are added anchors
some_then : (b : Bool) (tables : Bor StageTables) → is_some (then_some b tables) ≡ b
some_then true tables = refl
some_then false tables = refl

module _ {bytes : List ℕ} {at : Layout} (h : Laid bytes at) {added : Option (Bor StageTables)} (tables : Bor StageTables)
    (chosen : added ≡ then_some (not (eqb at.added_anchors.count 0)) tables) where
  pub added_there : is_some added ≡ non_empty (phrase_of bytes).added.anchors
  added_there = ap is_some chosen ∙ some_then _ tables ∙ runs_added h

  pub added_prepared : (non_empty (phrase_of bytes).added.anchors ≡ true → PreparedTables (phrase_of bytes) (phrase_of bytes).added tables)
      → ForSome added (PreparedTables (phrase_of bytes) (phrase_of bytes).added)
  added_prepared prepared t is = go (not (eqb at.added_anchors.count 0)) (runs_added h) (sym chosen ∙ is)
    where
      go : (b : Bool) → b ≡ non_empty (phrase_of bytes).added.anchors → then_some b tables ≡ Some t
          → PreparedTables (phrase_of bytes) (phrase_of bytes).added t
      go true there e =
          let same : tables ≡ t = cc in subst (PreparedTables (phrase_of bytes) (phrase_of bytes).added) same (prepared (sym there))
      go false there e = cc
