use Rattle.std.proofs.Common.{rules, ◌≡◌, ◌∙◌, map, ap, arith, length-set, refl, slice_get}
use Rattle.std.specs.Option.{option_map_or}
use Rattle.std.proofs.lemmas.List.{take_rest}
use Rattle.clip.specs.Clip.{report_after}
use Rattle.clip.specs.Inner.Units.{placed}
use Rattle.clip.proofs.Reports.{reported_first, reported_more, reported_all, rows_kept}
use Rattle.clip.proofs.clip.clip_unanchored.Goals as goal

pub loop-s-init : goal.loop-s-init
loop-s-init c =
    let units = c.args.units.now in
    let low : c.map_or-low.result ≡ option_map_or (λ unit. unit.span.start) (slice_get units 0) 0 = search rules in
    record {
      long = refl;
      spans = ap (λ n. report_after n (map placed units)) low ∙ reported_first units;
      rows = refl;
    }

pub loop-s-preserved : goal.loop-s-preserved
loop-s-preserved c = record {
  long = length-set c.loop-s.units c.loop-s.s _ ∙ c.loop-s.invariant.long;
  spans = reported_more c.loop-s.units c.loop-s.s c.loop-s.low _ c.report-span.result (omega arith) (search (rules, take_rest)) ∙ c.loop-s.invariant.spans;
  rows = rows_kept c.loop-s.units c.loop-s.s _ c.report-span.result ∙ c.loop-s.invariant.rows;
}

pub returns : goal.returns
returns c = record {
  spans = reported_all c.loop-s.units c.loop-s.s c.loop-s.low (omega arith) ∙ c.loop-s.invariant.spans;
  rows = c.loop-s.invariant.rows;
}
