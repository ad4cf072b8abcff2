-- Each table is written into one that holds the spare cost only.
use Rattle.std.proofs.Common.{ℕ, ◌+◌, rules}
use Rattle.limits.specs.Capacity.{most_boundaries}
use Rattle.stages.specs.Filler.{start_at, stretch, no_cost}
use Rattle.stages.proofs.Written.{front_table}
use Rattle.stages.proofs.filler.lay_costs.Goals as goal

pub returns : goal.returns
returns c =
    let a = c.args in
    let speech = a.speech.now in
    let nuclei = a.nuclei.now in
    let start = start_at a.costs speech nuclei in
    let gap = λ (j : ℕ). stretch a.costs speech nuclei j (j + 1) in
    let stop = λ (j : ℕ). stretch a.costs speech nuclei j a.n in record {
      started = front_table start a.n most_boundaries no_cost c.requires.1 (c.write_each.ensures start (λ j x below made. search rules));
      gapped = front_table gap a.n most_boundaries no_cost c.requires.1 (c.write_each-2.ensures gap (λ j x below made. search rules));
      stopped = front_table stop a.n most_boundaries no_cost c.requires.1 (c.write_each-3.ensures stop (λ j x below made. search rules));
    }
