-- What a record's bytes mean (document 01, "The phrase record"): total, and of use where the record is accepted.
use Rattle.std.specs.Prelude.{ℕ, ◌+◌, ◌-◌, ◌*◌, ◌&&◌, cond, List, eqb, Float}
use Rattle.laws.specs.Listed.{listed}
use Rattle.phrase.specs.Phrase.{Phrase, Stage, Candidate, Speech, silent, spoken}
use Rattle.phrase.specs.declared.costs.Costs.{Costs}
use Rattle.record.specs.Bytes.{byte_at}
use Rattle.record.specs.Layout.{layout_of, limits_of}
use Rattle.limits.specs.Common.{absent, shortest_unit}
use Rattle.record.specs.Format.{insertion_at, unvoiced_at}
use Rattle.record.specs.Conditions.{frame_at, speech_start, speech_end, f32_at, f64_at, first_table, second_table, id_at, units_at, column_at}
use Rattle.limits.specs.declared.edition.Limits.{Limits}
use Rattle.record.specs.declared.layout.Section.{Section}
use Rattle.record.specs.declared.layout.Layout.{Layout}
use Rattle.record.specs.declared.read.Which.{Which}
use Rattle.record.specs.declared.read.Which.TheVariants.{Nuclei, Count}

-- "Mask: F bytes, 1 for speech."
abbrev pub mask_at : List ℕ → Section → List ℕ
mask_at bytes s = listed (λ i. byte_at bytes (s.start + i)) s.count

-- "The four lists: u32 frames"
abbrev pub frames_at : List ℕ → Section → List ℕ
frames_at bytes s = listed (frame_at bytes s) s.count

-- "75 f64 for 6 to 80 frames": the entry for a unit of so many frames, of the table that starts there
abbrev pub duration_at : List ℕ → ℕ → ℕ → Float
duration_at bytes table frames = f64_at bytes (table + 8 * (frames - shortest_unit))

-- "Scores: f32, row by row"
abbrev pub score_at : List ℕ → Section → ℕ → ℕ → Float
score_at bytes s row column = f32_at bytes (s.start + 4 * (row * s.count + column))

-- "u32 id, u32 unit count k, sixteen column bytes of which the first k are used"
abbrev pub candidate_at : Limits → List ℕ → Layout → ℕ → Candidate
candidate_at l bytes at i = record { id = id_at l bytes at i; columns = listed (column_at l bytes at i) (units_at l bytes at i) }

-- "f64 per_frame and insertion_llr [..]; f32 unvoiced score"
abbrev pub costs_at : List ℕ → ℕ → Costs
costs_at bytes costs = record { per_frame = f64_at bytes costs; insertion_llr = f64_at bytes (costs + insertion_at); unvoiced = f32_at bytes (costs + unvoiced_at) }

-- "both 4,294,967,295 for no speech"
abbrev pub speech_of : ℕ → ℕ → Speech
speech_of start end = cond (eqb start absent && eqb end absent) silent (spoken start end)

-- What the bytes mean where the sections stand as the layout says, in an edition with these numbers. "Rows are nuclei, then anchors."
unfoldable pub phrase_at : Limits → List ℕ → Layout → Phrase
phrase_at l bytes at =
    record {
      mask = mask_at bytes at.mask;
      nuclei =
          record {
            anchors = frames_at bytes at.nuclei;
            first_row = 0;
            boundaries = frames_at bytes at.boundaries;
            duration = duration_at bytes (first_table at.costs);
          };
      added =
          record {
            anchors = frames_at bytes at.added_anchors;
            first_row = at.nuclei.count;
            boundaries = frames_at bytes at.added_boundaries;
            duration = duration_at bytes (second_table at.costs);
          };
      score = score_at bytes at.scores;
      candidates = listed (candidate_at l bytes at) at.candidates.count;
      costs = costs_at bytes at.costs;
      speech = speech_of (speech_start bytes at.costs) (speech_end bytes at.costs);
    }

unfoldable pub phrase_of : List ℕ → Phrase
unfolding phrase_at
phrase_of bytes = phrase_at (limits_of bytes) bytes (layout_of bytes)

-- the stage that a case of `Which` names: that of the nuclei, or the added one
abbrev pub stage_of : Which → Phrase → Stage
stage_of Nuclei phrase = phrase.nuclei
stage_of Count phrase = phrase.added
