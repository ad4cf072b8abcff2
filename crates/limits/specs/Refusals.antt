-- The numbers of the refusals.
use Rattle.std.specs.Prelude.{ℕ}
use Rattle.limits.specs.declared.refusal.Refusal.{Refusal}
use Rattle.limits.specs.declared.refusal.Refusal.TheVariants.{Stub, Edition, Size, Reach, Track, Cost, Bare, Twice, Units, Column, Desk}

-- the numbers of the table "What the decoder says no with"
abbrev pub number_of : Refusal → ℕ
number_of Stub = 1
number_of Edition = 2
number_of Size = 3
number_of Reach = 4
number_of Track = 5
number_of Cost = 6
number_of Bare = 7
number_of Twice = 8
number_of Units = 9
number_of Column = 10
number_of Desk = 11
