-- The trailer's fields under names, and where the sections start (document 01, "The phrase record").
use Rattle.std.specs.Prelude.{ℕ, ◌+◌, ◌-◌, ◌*◌, List, length}
use Rattle.limits.specs.Edition.{numbers_of}
use Rattle.limits.specs.declared.edition.Limits.{Limits}
use Rattle.record.specs.Bytes.{u32_at}
use Rattle.record.specs.Format.{trailer_bytes}
use Rattle.record.specs.declared.trailer.Mark.{Mark}
use Rattle.record.specs.declared.trailer.Trailer.{Trailer}
use Rattle.record.specs.declared.layout.Section.{Section}
use Rattle.record.specs.declared.layout.Layout.{Layout}

-- "The last 64 bytes are a trailer of sixteen u32": where it starts, which is also how many bytes stand before it.
abbrev pub trailer_start : List ℕ → ℕ
trailer_start bytes = length bytes - trailer_bytes

-- the trailer's word k, counted from 0
abbrev pub word : List ℕ → ℕ → ℕ
word bytes k = u32_at bytes (trailer_start bytes + 4 * k)

-- a count at word k and its back pointer behind it
abbrev pub mark_at : List ℕ → ℕ → Mark
mark_at bytes k = record { count = word bytes k; back = word bytes (k + 1) }

-- "Trailer: edition; F, mask pointer; N, pointer to nuclei; B, to boundaries; A, to added-stage anchors; D, to added-stage boundaries;
-- C, score pointer; M, candidate pointer; costs pointer."
unfoldable pub trailer_of : List ℕ → Trailer
trailer_of bytes =
    record {
      edition = word bytes 0;
      mask = mark_at bytes 1;
      nuclei = mark_at bytes 3;
      boundaries = mark_at bytes 5;
      added_anchors = mark_at bytes 7;
      added_boundaries = mark_at bytes 9;
      scores = mark_at bytes 11;
      candidates = mark_at bytes 13;
      costs = word bytes 15;
    }

-- "A back pointer counts bytes from the trailer's start back to the section's first byte."
abbrev pub placed : ℕ → Mark → Section
placed end m = record { count = m.count; start = end - m.back }

unfoldable pub layout_from : ℕ → Trailer → Layout
layout_from end t =
    record {
      edition = t.edition;
      mask = placed end t.mask;
      nuclei = placed end t.nuclei;
      boundaries = placed end t.boundaries;
      added_anchors = placed end t.added_anchors;
      added_boundaries = placed end t.added_boundaries;
      scores = placed end t.scores;
      candidates = placed end t.candidates;
      costs = end - t.costs;
    }

unfoldable pub layout_of : List ℕ → Layout
unfolding layout_from trailer_of
layout_of bytes = layout_from (trailer_start bytes) (trailer_of bytes)

-- the numbers of a record's edition, which its trailer and so its layout name
abbrev pub limits_of : List ℕ → Limits
limits_of bytes = numbers_of (trailer_of bytes).edition

abbrev pub limits_at : Layout → Limits
limits_at at = numbers_of at.edition
