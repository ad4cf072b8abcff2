-- Phrases that read alike for two candidates: the two entries are equal in all but the id, and equal whole, words too, where the ids agree.
-- Assumes nothing.
use Prim.Native.Nat.{ℕ}
use mathlib.Core.List.{List, [], ◌∷◌, map, zip_with, tail}
use mathlib.Core.Path.{◌≡◌, refl, sym, ap, ap₂, subst, ◌∙◌}
use native.Mathlib.Omega.{arith}
use lib.ListN.{length}
use Rattle.ieee.specs.Convert.{clamped_log}
use Rattle.phrase.specs.Phrase.{Phrase, Stage, Candidate}
use Rattle.paths.specs.declared.passes.Pass.{Pass}
use Rattle.paths.specs.declared.passes.Pass.TheVariants.{NucleiStrict, CountStrict, CountRelaxed, NucleiRelaxed}
use Rattle.paths.specs.Path.{Path, Bounds, units_of}
use Rattle.paths.specs.Anchors.{Anchor}
use Rattle.paths.specs.Demand.{Answer, found, none, unvoiced}
use Rattle.paths.specs.Search.{chosen}
use Rattle.paths.specs.Theory.Alike.{SameLists, ReadsAlike, RowsBelow}
use Rattle.paths.proofs.Alike.{bare, bare_stage, same_bare, same_bare_stage, same_answer, demanded_too}
use Rattle.clip.specs.Clip.{Placed, reported}
use Rattle.entries.specs.Entry.{Entry}
use Rattle.entries.specs.Words.{words_of}
use Rattle.record.specs.Meaning.{phrase_of}
use Rattle.record.proofs.Reading.{nuclei_first, added_next}
use Rattle.decoding.specs.Report.{row_span, held_by, placed_by, placed_unit, reported_unit, reported_in, reported_units}
use Rattle.decoding.specs.EntryOf.{missed_total, missed_units, total_of, units_for, entry_for, Search, entry_by, entry_of}
use Rattle.decoding.specs.Contract.{Meets}

-- ---- entries that are equal in all but the id

pub record SameButId (entry entry' : Entry) : Type 0 where
  pub pass : entry.pass ≡ entry'.pass
  pub total : entry.total ≡ entry'.total
  pub llr : entry.llr ≡ entry'.llr
  pub units : entry.units ≡ entry'.units

module _ {entry entry' : Entry} (same : SameButId entry entry') where
  pub same_unit_count : length entry.units ≡ length entry'.units
  same_unit_count = ap length same.units

  pub same_whole : entry.id ≡ entry'.id → entry ≡ entry'
  same_whole id = fields
    where
      fields : ◌≡◌ {A = Entry} (record { id = entry.id; pass = entry.pass; total = entry.total; llr = entry.llr; units = entry.units })
          (record { id = entry'.id; pass = entry'.pass; total = entry'.total; llr = entry'.llr; units = entry'.units })
      fields = cc

  -- all words but the first, which is the id
  pub same_words : (most : ℕ) → tail (words_of most entry) ≡ tail (words_of most entry')
  unfolding words_of
  same_words most = cc

-- ---- the units reported

-- No scores, durations or candidates are looked at.
placed_bare : (phrase : Phrase) (stage : Stage) (unit : Bounds) (anchors : List Anchor)
    → placed_by phrase stage unit anchors ≡ placed_by (bare phrase) (bare_stage stage) unit anchors
unfolding placed_by row_span
placed_bare phrase stage unit [] = refl
placed_bare phrase stage unit (anchor ∷ more) = refl

all_placed_bare : (phrase : Phrase) (stage : Stage) (units : List Bounds)
    → map (placed_unit phrase stage) units ≡ map (placed_unit (bare phrase) (bare_stage stage)) units
all_placed_bare phrase stage [] = refl
all_placed_bare phrase stage (unit ∷ units) =
    ap₂ ◌∷◌ (placed_bare phrase stage unit (held_by phrase stage unit)) (all_placed_bare phrase stage units)

reported_bare : (phrase : Phrase) (stage : Stage) (units : List Bounds)
    → reported_in phrase stage units ≡ reported_in (bare phrase) (bare_stage stage) units
unfolding reported_in
reported_bare phrase stage units =
    ap (λ (placed : List Placed). zip_with reported_unit (map (held_by phrase stage) units) (reported placed))
    (all_placed_bare phrase stage units)

module _ {phrase phrase' : Phrase} {columns columns' : List ℕ} (alike : ReadsAlike phrase columns phrase' columns') where
  reported_in_law : {stage stage' : Stage} → SameLists stage stage' → (units : List Bounds)
      → reported_in phrase stage units ≡ reported_in phrase' stage' units
  reported_in_law {stage} {stage'} lists units =
      reported_bare phrase stage units
      ∙ ap₂ (λ (p : Phrase) (s : Stage). reported_in p s units) (same_bare alike) (same_bare_stage lists)
      ∙ sym (reported_bare phrase' stage' units)

  pub same_reported : (pass : Pass) (path : Path) → reported_units phrase pass path ≡ reported_units phrase' pass path
  same_reported NucleiStrict path = reported_in_law alike.nuclei (units_of path)
  same_reported CountStrict path = reported_in_law alike.added (units_of path)
  same_reported CountRelaxed path = reported_in_law alike.added (units_of path)
  same_reported NucleiRelaxed path = reported_in_law alike.nuclei (units_of path)

-- ---- entries

module _ (candidate candidate' : Candidate) {phrase phrase' : Phrase}
    (alike : ReadsAlike phrase candidate.columns phrase' candidate'.columns) where
  same_total : (answer : Answer)
      → total_of phrase (length candidate.columns) answer ≡ total_of phrase' (length candidate'.columns) answer
  same_total (found pass path total) = refl
  same_total none = ap₂ missed_total (same_bare alike) alike.unit_count
  same_total unvoiced = ap₂ missed_total (same_bare alike) alike.unit_count

  same_units : (answer : Answer)
      → units_for phrase (length candidate.columns) answer ≡ units_for phrase' (length candidate'.columns) answer
  same_units (found pass path total) = same_reported alike pass path
  same_units none = ap₂ missed_units (same_bare alike) alike.unit_count
  same_units unvoiced = ap₂ missed_units (same_bare alike) alike.unit_count

  -- the entries of one answer
  pub same_for : (answer : Answer) → SameButId (entry_for phrase candidate answer) (entry_for phrase' candidate' answer)
  unfolding entry_for
  same_for answer = record { pass = refl; total = same_total answer; llr = ap clamped_log (same_total answer); units = same_units answer }

  -- by any search that answers the same for both
  pub same_by : (search : Search) → search phrase candidate.columns ≡ search phrase' candidate'.columns
      → SameButId (entry_by search phrase candidate) (entry_by search phrase' candidate')
  unfolding entry_by
  same_by search same =
      subst (λ (answer : Answer). SameButId (entry_by search phrase candidate) (entry_for phrase' candidate' answer)) same
      (same_for (search phrase candidate.columns))

-- by the cell rule
module _ (candidate candidate' : Candidate) {phrase phrase' : Phrase} (below : RowsBelow phrase)
    (alike : ReadsAlike phrase candidate.columns phrase' candidate'.columns) where
  pub same_but_id : SameButId (entry_of phrase candidate) (entry_of phrase' candidate')
  same_but_id = same_by candidate candidate' alike chosen (same_answer below alike)

  -- an entry that meets demand 3 for the one has its like for the other
  pub meets_too : {entry : Entry} → Meets phrase candidate entry → (entry' : Entry) × Meets phrase' candidate' entry'
      × SameButId entry entry'
  meets_too meets = (
    entry_for phrase' candidate' meets.answer,
    record { answer = meets.answer; demanded = demanded_too below alike meets.demanded; reported = refl },
    subst (λ (e : Entry). SameButId e (entry_for phrase' candidate' meets.answer)) (sym meets.reported)
        (same_for candidate candidate' alike meets.answer),
  )

  module _ (ids : candidate.id ≡ candidate'.id) where
    pub same_entry : entry_of phrase candidate ≡ entry_of phrase' candidate'
    unfolding entry_by
    same_entry = same_whole same_but_id ids

    pub same_entry_words : (most : ℕ) → words_of most (entry_of phrase candidate) ≡ words_of most (entry_of phrase' candidate')
    same_entry_words most = ap (words_of most) same_entry

-- candidates of one phrase and candidates of another, side by side, each with the id of its like
pub data CandidatesAlike (phrase phrase' : Phrase) : List Candidate → List Candidate → Type 0 where
  all_alike : CandidatesAlike phrase phrase' [] []
  each_alike : {candidate candidate' : Candidate} {others others' : List Candidate}
      → candidate.id ≡ candidate'.id
      → ReadsAlike phrase candidate.columns phrase' candidate'.columns
      → CandidatesAlike phrase phrase' others others'
      → CandidatesAlike phrase phrase' (candidate ∷ others) (candidate' ∷ others')

pub same_entries : {phrase phrase' : Phrase} {candidates candidates' : List Candidate} → RowsBelow phrase
    → CandidatesAlike phrase phrase' candidates candidates'
    → map (entry_of phrase) candidates ≡ map (entry_of phrase') candidates'
same_entries below all_alike = refl
same_entries below (each_alike {candidate = candidate} {candidate' = candidate'} ids alike others) =
    ap₂ ◌∷◌ (same_entry candidate candidate' below alike ids) (same_entries below others)

-- ---- records

pub rows_below : (bytes : List ℕ) → RowsBelow (phrase_of bytes)
rows_below bytes = record { nuclei = omega (arith, nuclei_first bytes); added = omega (arith, added_next bytes) }

-- the entries of a candidate of one record and a candidate of another, where the records read alike for them
module _ (bytes bytes' : List ℕ) (candidate candidate' : Candidate)
    (alike : ReadsAlike (phrase_of bytes) candidate.columns (phrase_of bytes') candidate'.columns) where
  pub records_same_but_id : SameButId (entry_of (phrase_of bytes) candidate) (entry_of (phrase_of bytes') candidate')
  records_same_but_id = same_but_id candidate candidate' (rows_below bytes) alike

  pub records_same_entry : candidate.id ≡ candidate'.id → entry_of (phrase_of bytes) candidate ≡ entry_of (phrase_of bytes') candidate'
  records_same_entry = same_entry candidate candidate' (rows_below bytes) alike
