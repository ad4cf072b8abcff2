use Rattle.std.proofs.Common.{◌≡◌, ℕ, ◌+◌, ◌-◌, max, cond, ltb, get_or, List, sym, ap, ◌∙◌, Bool}
use native.Mathlib.Omega.{arith}
use borrow.Author.Tests.{lt-ltb, le-ltb}
use lib.Ieee.{Float}
use Rattle.phrase.specs.declared.costs.Costs.{Costs}
use Rattle.stages.specs.declared.stage_tables.StageTables.{StageTables}
use Rattle.rows.specs.declared.way.Way.{Way}
use Rattle.rows.specs.Ways.{or_each}
use Rattle.rows.specs.Reads.{unit_way, score_read, units_kept}
use Rattle.rows.proofs.fill.arrived.Goals as goal
use Rattle.rows.proofs.fill.arrived.Goals.{then-low-middle, else-low-middle}

module _ (best : List Float) (tables : StageTables) (score : Float) (costs : Costs) (j low end : ℕ) where
  abbrev to : ℕ
  to = get_or tables.words.bounds j 0

  abbrev middle : ℕ
  middle = get_or tables.words.origins.ends.strict j 0

  kept_is :
      (mid : ℕ) (bare voice : Float) (first anchored result : Way) (rest : ℕ) → mid ≡ middle →
      bare ≡ costs.«unvoiced» → voice ≡ cond (ltb low mid) score costs.«unvoiced» → first ≡ unit_way best tables to voice low →
      anchored ≡ or_each (unit_way best tables to voice) first (low + 1) (mid - (low + 1)) → rest ≡ max (low + 1) mid →
      result ≡ or_each (unit_way best tables to bare) anchored rest (end - rest) →
      result ≡ units_kept best tables score costs j low end
  unfolding units_kept
  kept_is mid bare voice first anchored result rest m b v f a r e = e ∙ rw (r, a, f, v, b, m)

pub units_from-requires : goal.units_from-requires
units_from-requires c = λ i h k. c.requires.by_index i (omega (arith, c.max-rest.ensures)) k

pub returns : goal.returns
returns c =
    let a = c.args in
    let inputs = a.inputs.now in
    let middle = c.at-middle.result in
    let score = score_read inputs.accepted.bytes.now inputs.tables.now.words inputs.column a.j in
    let voiced : c.if-low-middle.voice ≡ cond (ltb a.low middle) score inputs.costs.«unvoiced» =
    elim c.if-low-middle.branch [
      | then-low-middle w ↦
          w.voice-is ∙ w.score_at-voice.ensures
          ∙ sym (ap (λ (b : Bool). cond b score inputs.costs.«unvoiced») (lt-ltb a.low middle w.if-low-middle.true))
      | else-low-middle w ↦
          w.voice-is ∙ c.unanchored-bare.ensures
          ∙ sym (ap (λ (b : Bool). cond b score inputs.costs.«unvoiced») (le-ltb a.low middle w.if-low-middle.false))
    ] in
    kept_is a.best.now inputs.tables.now score inputs.costs a.j a.low a.end _ _ _ _ _ _ _
    c.at-middle.ensures c.unanchored-bare.ensures voiced c.unit_from-first.ensures c.units_from-anchored.ensures c.max-rest.ensures c.units_from.ensures
