-- A result entry apart from its words (document 01, "Spans, marks and order").
use Rattle.std.specs.Prelude.{ℕ, List, Float}

-- `row` as in "each with its anchor's row or 4,294,967,295", which is `absent` (limits/specs/Common.antt).
pub record ReportedUnit : Type 0 where
  pub start : ℕ
  pub end : ℕ
  pub row : ℕ

-- `pass` is the pass's number; `total` is the score before it is clamped and narrowed to the llr.
pub record Entry : Type 0 where
  pub id : ℕ
  pub pass : ℕ
  pub total : Float
  pub llr : Float
  pub units : List ReportedUnit
