-- What the conditions 3 and 4 leave when they do not hold: bounds on the counts, and sections that stand before the trailer.
use Rattle.std.specs.Prelude.{ℕ, ◌+◌, ◌*◌, ◌≤◌, ◌<◌, ◌≡◌}
use Rattle.limits.specs.Sizes.{candidate_bytes}
use Rattle.limits.specs.Inner.Moderate.{Moderate}
use Rattle.record.specs.Format.{list_bytes, score_bytes, costs_bytes}
use Rattle.limits.specs.declared.edition.Limits.{Limits}
use Rattle.record.specs.declared.trailer.Trailer.{Trailer}
use Rattle.record.specs.declared.layout.Layout.{Layout}

pub record Sized (l : Limits) (t : Trailer) : Type 0 where
  pub frames : t.mask.count ≤ l.frames
  pub nuclei : t.nuclei.count ≤ l.nuclei
  pub boundaries : t.boundaries.count ≤ l.boundaries
  pub added_anchors : t.added_anchors.count ≤ l.anchors
  pub added_boundaries : t.added_boundaries.count ≤ l.boundaries
  pub columns : t.scores.count ≤ l.columns
  pub candidates : t.candidates.count ≤ l.candidates
  pub some_column : 0 < t.scores.count
  pub nothing_added : t.added_anchors.count ≡ 0 → t.added_boundaries.count ≡ 0

-- the same of a layout, whose counts are the trailer's
pub record Counted (l : Limits) (at : Layout) : Type 0 where
  pub frames : at.mask.count ≤ l.frames
  pub nuclei : at.nuclei.count ≤ l.nuclei
  pub boundaries : at.boundaries.count ≤ l.boundaries
  pub added_anchors : at.added_anchors.count ≤ l.anchors
  pub added_boundaries : at.added_boundaries.count ≤ l.boundaries
  pub columns : at.scores.count ≤ l.columns
  pub candidates : at.candidates.count ≤ l.candidates
  pub some_column : 0 < at.scores.count
  pub nothing_added : at.added_anchors.count ≡ 0 → at.added_boundaries.count ≡ 0

-- a section of so many bytes lies between the record's start and the trailer's
pub record Reaches (end bytes back : ℕ) : Type 0 where
  pub long : bytes ≤ back
  pub inside : back ≤ end

pub record Reaching (l : Limits) (end : ℕ) (t : Trailer) : Type 0 where
  pub mask : Reaches end t.mask.count t.mask.back
  pub nuclei : Reaches end (list_bytes t.nuclei.count) t.nuclei.back
  pub boundaries : Reaches end (list_bytes t.boundaries.count) t.boundaries.back
  pub added_anchors : Reaches end (list_bytes t.added_anchors.count) t.added_anchors.back
  pub added_boundaries : Reaches end (list_bytes t.added_boundaries.count) t.added_boundaries.back
  pub scores : Reaches end (score_bytes t.nuclei.count t.added_anchors.count t.scores.count) t.scores.back
  pub candidates : Reaches end (candidate_bytes l * t.candidates.count) t.candidates.back
  pub costs : Reaches end costs_bytes t.costs

-- no section starts before the record
pub record Inside (end : ℕ) (t : Trailer) : Type 0 where
  pub mask : t.mask.back ≤ end
  pub nuclei : t.nuclei.back ≤ end
  pub boundaries : t.boundaries.back ≤ end
  pub added_anchors : t.added_anchors.back ≤ end
  pub added_boundaries : t.added_boundaries.back ≤ end
  pub scores : t.scores.back ≤ end
  pub candidates : t.candidates.back ≤ end
  pub costs : t.costs ≤ end

-- The sections but the candidates lie within the first `end` bytes: what their readers ask of a layout.
pub record Within (end : ℕ) (at : Layout) : Type 0 where
  pub mask : at.mask.start + at.mask.count ≤ end
  pub nuclei : at.nuclei.start + list_bytes at.nuclei.count ≤ end
  pub boundaries : at.boundaries.start + list_bytes at.boundaries.count ≤ end
  pub added_anchors : at.added_anchors.start + list_bytes at.added_anchors.count ≤ end
  pub added_boundaries : at.added_boundaries.start + list_bytes at.added_boundaries.count ≤ end
  pub scores : at.scores.start + score_bytes at.nuclei.count at.added_anchors.count at.scores.count ≤ end
  pub costs : at.costs + costs_bytes ≤ end

-- What the readers of candidates ask: their section, whose entries have the edition's size, does too.
pub record CandidatesRead (l : Limits) (end : ℕ) (at : Layout) : Type 0 where
  pub moderate : Moderate l
  pub section : at.candidates.start + candidate_bytes l * at.candidates.count ≤ end
