use Rattle.std.proofs.Common.{◌+◌, ◌<◌, ◌≤◌, ◌≡◌, length, get_or}
use Rattle.laws.proofs.Filling.{Filling}
use Rattle.paths.specs.Frames.{speech_in}
use Rattle.stages.specs.Edges.{speech_before}
use Rattle.stages.proofs.counts.count_speech.Given as goal

abbrev pub invariant-loop-j : goal.invariant-loop-j
invariant-loop-j l =
    Filling (speech_before l.mask l.bounds) (length l.bounds + 1) l.initial.counts l.counts l.j
    × (l.count ≡ speech_in l.mask 0 l.from)
    × (l.j < length l.bounds → l.from ≤ get_or l.bounds l.j 0)
