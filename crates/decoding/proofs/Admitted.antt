-- Each unit of an admitted path is admitted.
use Prim.Native.Nat.{ℕ, ◌<◌}
use mathlib.Core.List.{List, [], ◌∷◌, ◌++◌}
use mathlib.Core.Path.{◌≡◌, sym, ap, subst, ◌∙◌}
use native.Mathlib.Omega.{arith}
use lib.Dec.{T}
use lib.ListN.{length, get_or, get_or-append, length-append}
use lib.Seq.{get_or-append_seam}
use Rattle.laws.proofs.Numbers.{by_order}
use Rattle.phrase.specs.Phrase.{Phrase, Stage}
use Rattle.paths.specs.declared.passes.Strictness.{Strictness}
use Rattle.paths.specs.Anchors.{kept}
use Rattle.paths.specs.Units.{admits_unit}
use Rattle.paths.specs.StageProblem.{boundary, problem_of}
use Rattle.paths.specs.Path.{Bounds}
use Rattle.paths.proofs.PathUnits.{InOrder, no_units, later_end, one_more}

-- a unit that a stage admits, in a strict or a relaxed pass
pub record UnitOk (phrase : Phrase) (stage : Stage) (strictness : Strictness) (unit : Bounds) : Type 0 where
  pub forward : unit.first < unit.last
  pub inside : unit.last < length stage.boundaries
  pub admitted : T (admits_unit strictness (kept phrase stage) (boundary stage unit.first) (boundary stage unit.last))

abbrev pub no_bounds : Bounds
no_bounds = record { first = 0; last = 0 }

module _ (phrase : Phrase) (stage : Stage) (strictness : Strictness) (columns : List ℕ) where
  pub each_ok : {us : List Bounds} {j : ℕ} → InOrder (problem_of phrase stage strictness columns) us j
      → (i : ℕ) → i < length us → UnitOk phrase stage strictness (get_or us i no_bounds)
  each_ok no_units i h = absurd (omega arith)
  each_ok (later_end o l) i h = each_ok o i h
  each_ok (one_more {us = us} {i = a} {j = b} o less below ok) i h =
      let unit : Bounds = record { first = a; last = b } in
      by_order i (length us)
      (λ earlier. subst (UnitOk phrase stage strictness) (sym (get_or-append us (unit ∷ []) no_bounds i earlier)) (each_ok o i earlier))
      (λ later.
      let e : i ≡ length us = omega (arith, length-append us (unit ∷ [])) in
      subst (UnitOk phrase stage strictness)
      (sym (ap (λ (n : ℕ). get_or (us ++ (unit ∷ [])) n no_bounds) e ∙ get_or-append_seam us unit [] no_bounds))
      (record { forward = less; inside = below; admitted = ok }))
