-- One number for an entry's outcome, and the words that stand for a flag, a missing frame, a stage and a strictness.
use Rattle.std.specs.Prelude.{ℕ, ◌+◌, ◌*◌, Bool, cond, eqb, ℤ, pos, neg_ℤ, Option, Some, None}
use Rattle.limits.specs.Common.{absent}
use Rattle.paths.specs.declared.passes.Strictness.{Strictness}
use Rattle.paths.specs.declared.passes.Strictness.TheVariants.{Strict, Relaxed}
use Rattle.record.specs.declared.read.Which.{Which}
use Rattle.record.specs.declared.read.Which.TheVariants.{Nuclei, Count}
use Rattle.frames.specs.Outcome.{Outcome, accepted, refused}
use Rattle.evidence.specs.declared.joins.Joined.{Joined}

-- "An accepted call returns M." "A refusal returns its number only." Here it is minus that number, so that no value is taken for a refusal.
abbrev pub status : {A : Type 0} → (A → ℕ) → Outcome A → ℤ
status value (accepted a) = pos (value a)
status value (refused number) = neg_ℤ (pos number)

-- what an accepted call leaves behind a pointer, and what a refused one does: "all lent memory keeps its bytes"
abbrev pub stored : {A : Type 0} → A → Outcome A → A
stored before (accepted a) = a
stored before (refused number) = before

-- no is 0, yes is 1
abbrev pub flag : Bool → ℕ
flag yes? = cond yes? 1 0

-- 1 where the start is joined and 2 where the end is, added
abbrev pub edge_flags : Joined → ℕ
edge_flags edges = flag edges.start + 2 * flag edges.end

-- the next nucleus by its word, which may say that there is none
abbrev pub frame_of : ℕ → Option ℕ
frame_of word = cond (eqb word absent) None (Some word)

-- "word 0 means the nuclei stage, every other word the added one"
abbrev pub stage_named : ℕ → Which
stage_named word = cond (eqb word 0) Nuclei Count

-- a strictness likewise, as docs/DECISIONS.md reads it: 0 relaxed, every other word strict
abbrev pub strictness_named : ℕ → Strictness
strictness_named word = cond (eqb word 0) Relaxed Strict
