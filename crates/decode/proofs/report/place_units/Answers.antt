use Rattle.std.proofs.Common.{◌≡◌, ℕ, ◌+◌, ◌<◌, List, [], ◌∷◌, ◌++◌, length, map, take, drop, set, get_or, sym, ap, ◌∙◌, arith, append_assoc}
use Rattle.std.proofs.lemmas.List.{drop_more, length-map, length-take-le, map_more, set_at}
use Rattle.frames.specs.declared.unit.PlacedUnit.{PlacedUnit}
use Rattle.rows.specs.declared.trace.Bounds.{Bounds}
use Rattle.decode.specs.Places.{place_of, missed_at}
use Rattle.decode.proofs.report.place_units.Goals as goal

placed_more : (place : Bounds → PlacedUnit) (path : List Bounds) (s : ℕ) (d : Bounds) (old out : List PlacedUnit) → s < length path
    → s < length old → out ≡ map place (take s path) ++ drop s old
    → set out s (place (get_or path s d)) ≡ map place (take (s + 1) path) ++ drop (s + 1) old
placed_more place path s d old out here there is =
    let done : List PlacedUnit = map place (take s path) in
    let unit : PlacedUnit = place (get_or path s d) in
    ap (λ (units : List PlacedUnit). set units s unit) (is ∙ ap (λ (rest : List PlacedUnit). done ++ rest) (drop_more old s (missed_at 0) there))
    ∙ set_at done (get_or old s (missed_at 0)) (drop (s + 1) old) unit s
    (length-map (take s path) place ∙ length-take-le s path (omega arith))
    ∙ sym (append_assoc done (unit ∷ []) (drop (s + 1) old))
    ∙ ap (λ (units : List PlacedUnit). units ++ drop (s + 1) old) (sym (map_more place path s d here))

pub loop-s-preserved : goal.loop-s-preserved
loop-s-preserved c =
    ap (set c.loop-s.out c.loop-s.s) c.place_unit.ensures
    ∙ placed_more (place_of c.args.words.now) c.args.path.now c.loop-s.s _ c.args.out.now c.loop-s.out (omega arith) c.loop-s-test.true
    c.loop-s.invariant
