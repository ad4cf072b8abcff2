-- The words say what each count of units reaches over them.
use Rattle.std.proofs.Common.{ℕ, ◌<◌, List, ◌≡◌, length, Some, None, Ok, ap, subst, ◌∙◌, arith}
use Rattle.laws.proofs.Lists.{length_none}
use Rattle.limits.specs.Capacity.{unit_counts}
use Rattle.paths.specs.Anchors.{kept}
use Rattle.record.specs.Layout.{limits_of, limits_at}
use Rattle.record.specs.Inner.Accepted.{Laid}
use Rattle.record.specs.declared.layout.Layout.{Layout}
use Rattle.record.proofs.Accepted.{laid_limits, own_moderate}
use Rattle.limits.specs.declared.edition.Limits.{Limits}
use Rattle.stages.specs.Tables.{entry_by}
use Rattle.prepare.specs.Sides.{phrase_in, stage_in}
use Rattle.prepare.proofs.Parts.{boundaries_fit}
use Rattle.most_units.specs.Answers.{Answers, no_boundary, is_counted}
use Rattle.most_units.specs.Most.{paths_of, Most}
use Rattle.most_units.specs.Inner.Last.{LastReached}
use Rattle.most_units.proofs.Words.{reached_is, starts_first, words_most}
use Rattle.most_units.proofs.most.most_of.Goals as goal

-- the cap is that of the record's edition, for which there is room
cap_is : {bytes : List ℕ} {at : Layout} {limits : Limits} → Laid bytes at → limits ≡ limits_at at → limits.units ≡ (limits_of bytes).units
cap_is laid e = ap (λ (l : Limits). l.units) (e ∙ laid_limits laid)

room : {bytes : List ℕ} {at : Layout} {limits : Limits} → Laid bytes at → limits ≡ limits_at at → limits.units < unit_counts
room {bytes} laid e = omega (arith, cap_is laid e, (own_moderate bytes).units)

pub returns-then-n-eq0 : goal.returns-then-n-eq0
returns-then-n-eq0 c =
    let s = c.new-stage.result in
    let read = c.new-stage.ensures in
    coe 0 1 (i. Answers (read.accepted i) (read.which i) c.args.strictness (Ok None))
    (no_boundary s.accepted.now.laid.accepted (length_none _ (omega (arith, ap length s.read, c.if-n-eq0.true))))

pub last_reached-requires : goal.last_reached-requires
last_reached-requires c =
    let s = c.new-stage.result in (
      room s.accepted.now.laid c.limits_of-cap.ensures,
      omega (
        arith,
        reached_is c.lay_reach.ensures c.args.strictness 0 (omega arith),
        starts_first (kept (phrase_in s) (stage_in s)) (stage_in s).boundaries c.args.strictness,
        c.if-n-eq0.false,
      ),
    )

pub overflow_cast-result : goal.overflow_cast-result
overflow_cast-result c =
    record { fits = omega (arith, c.last_reached.ensures.capped, room c.new-stage.result.accepted.now.laid c.limits_of-cap.ensures) }

pub returns : goal.returns
returns c =
    let s = c.new-stage.result in
    let read = c.new-stage.ensures in
    let h = s.accepted.now.laid in
    let strictness = c.args.strictness in
    let units = c.last_reached.result in
    let first = entry_by c.lay_reach.new.words.since strictness in
    let last = subst (λ (l : List ℕ). LastReached first (length l) c.limits_of-cap.result.units units) s.read c.last_reached.ensures in
    let most =
    words_most (phrase_in s) (stage_in s) (boundaries_fit h s.which).ascending strictness c.lay_reach.ensures
    (room h c.limits_of-cap.ensures) last in
    coe 0 1 (i. Answers (read.accepted i) (read.which i) strictness (Ok (Some units)))
    (is_counted h.accepted
    (subst (λ (cap : ℕ). Most (paths_of (phrase_in s) (stage_in s) strictness) cap units) (cap_is h c.limits_of-cap.ensures) most))
