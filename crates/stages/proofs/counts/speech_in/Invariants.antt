use Rattle.std.proofs.Common.{◌-◌, ◌≤◌, ◌≡◌, max}
use Rattle.paths.specs.Frames.{speech_from}
use Rattle.stages.proofs.counts.speech_in.Given as goal

abbrev pub invariant-loop-at : goal.invariant-loop-at
invariant-loop-at l = (l.at ≤ max l.start l.end) × (l.count ≡ speech_from l.mask l.start (l.at - l.start))
