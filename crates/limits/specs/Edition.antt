-- The numbers of an edition. Everything above takes them as one value, so that another edition is another value.
use Rattle.std.specs.Prelude.{ℕ}
use Rattle.limits.specs.declared.edition.Limits.{Limits}

-- Document 01: "Limits: F 2,048; N 32; B, A, D, C 64; M 16", "unit count 0 or above 16".
abbrev pub edition1 : Limits
edition1 = record { edition = 1; frames = 2048; nuclei = 32; boundaries = 64; anchors = 64; columns = 64; candidates = 16; units = 16 }

-- The numbers by which a record is read whose trailer names that edition: "edition field is not 1" is refused by 2, so that there is
-- one answer. It stays shut, so that no law above rests on the numbers themselves.
unfoldable pub numbers_of : ℕ → Limits
numbers_of edition = edition1
