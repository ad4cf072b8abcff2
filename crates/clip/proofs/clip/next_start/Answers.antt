use Rattle.std.proofs.Common.{◌≡◌, ◌∙◌, is_some, rules, tests}
use Rattle.std.specs.Option.{option_map_or}
use Rattle.std.proofs.lemmas.Iterator.{YieldsList-from_slice}
use Rattle.std.proofs.lemmas.Iterator.Search.{find_from_yields_List}
use Rattle.clip.proofs.Units.{next_start_is}
use Rattle.clip.proofs.clip.next_start.Goals as goal

pub returns : goal.returns
returns c =
    let read : c.map_or.result ≡ option_map_or (λ unit. unit.now.span.start) c.find.result c.args.otherwise = search rules in
    read
    ∙ next_start_is c.args.otherwise c.args.units.now c.find.result
    (find_from_yields_List (λ unit. is_some unit.row) _ _ c.find.result c.find.ensures.ran (YieldsList-from_slice c.args.units.now cc) (λ x b q k. search (rules, tests)))
