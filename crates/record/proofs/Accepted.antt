-- The phrase of an accepted record fits: every bound that decoding goes by, from no condition of the record's own holding.
use Prim.Native.Nat.{ℕ, ◌+◌, ◌*◌, ◌≤◌, ◌<◌}
use mathlib.Core.Bool.{false, not, ◌&&◌}
use mathlib.Core.List.{List}
use mathlib.Core.Path.{◌≡◌, sym, ap, subst, subst⁻¹, ◌∙◌}
use native.Mathlib.Nat.{lt_trans}
use native.Mathlib.Omega.{arith}
use borrow.Author.Tests.{ltb-false, leb-false, lt-ltb, eqb-false}
use lib.Dec.{ltb, eqb}
use lib.ListN.{length}
use lib.Arith.{digits_lt}
use Rattle.laws.proofs.Listed.{length_listed, get_d_listed}
use Rattle.laws.proofs.Numbers.{not_zero}
use Rattle.laws.proofs.Rules.{none_exactly}
use Rattle.laws.proofs.Choices.{neither_left, neither_right, and_fails}
use Rattle.ieee.specs.Range.{within}
use Rattle.limits.specs.Inner.Moderate.{Moderate}
use Rattle.limits.proofs.Editions.{moderate}
use Rattle.phrase.specs.Phrase.{Candidate}
use Rattle.record.specs.Bytes.{u32_at, u64_at}
use Rattle.record.specs.Format.{trailer_bytes, record_bytes, insertion_at, unvoiced_at}
use Rattle.record.specs.Inner.Bounds.{Sized, Counted}
use Rattle.record.specs.Layout.{trailer_of, layout_from, layout_of, limits_of, limits_at}
use Rattle.limits.specs.Common.{absent, million, thousand}
use Rattle.record.specs.Conditions.{bad_list, bad_mask, bad_edges, bad_track, speech_start, speech_end, first_table, second_table, f32_at, f64_at, bad_scores, bad_table, bad_cost, id_at, units_at, column_at}
use Rattle.record.specs.Refusals.{own_rules, refusal_of}
use Rattle.record.specs.Meaning.{mask_at, frames_at, duration_at, candidate_at, phrase_at, phrase_of}
use Rattle.record.specs.Inner.Accepted.{Laid, StageFit, CandidateFit, Fit}
use Rattle.limits.specs.declared.edition.Limits.{Limits}
use Rattle.record.specs.declared.layout.Section.{Section}
use Rattle.record.specs.declared.layout.Layout.{Layout}
use Rattle.record.proofs.Sizes.{sized}
use Rattle.record.proofs.Below.{none_below}
use Rattle.record.proofs.Entries.{units_some, units_most_law}
use Rattle.record.proofs.Passed.{Passed, none_holds}
use Rattle.record.proofs.Fits.{frames_fit, score_fits_law, cost_fits_law, table_fits, edges_fit}

counted : (l : Limits) (bytes : List ℕ) → Sized l (trailer_of bytes) → Counted l (layout_of bytes)
unfolding layout_of layout_from
counted l bytes s =
    record {
      frames = s.frames;
      nuclei = s.nuclei;
      boundaries = s.boundaries;
      added_anchors = s.added_anchors;
      added_boundaries = s.added_boundaries;
      columns = s.columns;
      candidates = s.candidates;
      some_column = s.some_column;
      nothing_added = s.nothing_added;
    }

-- condition 5, part by part
record Tracked (bytes : List ℕ) (at : Layout) : Type 0 where
  mask : bad_mask bytes at.mask ≡ false
  nuclei : bad_list bytes at.nuclei ≡ false
  boundaries : bad_list bytes at.boundaries ≡ false
  added_anchors : bad_list bytes at.added_anchors ≡ false
  added_boundaries : bad_list bytes at.added_boundaries ≡ false
  speech : bad_edges (speech_start bytes at.costs) (speech_end bytes at.costs) ≡ false

tracked : (bytes : List ℕ) (at : Layout) → bad_track bytes at ≡ false → Tracked bytes at
unfolding bad_track
tracked bytes at e =
    record {
      mask = search (neither_left, neither_right) depth 8;
      nuclei = search (neither_left, neither_right) depth 8;
      boundaries = search (neither_left, neither_right) depth 8;
      added_anchors = search (neither_left, neither_right) depth 8;
      added_boundaries = search (neither_left, neither_right) depth 8;
      speech = search (neither_left, neither_right) depth 8;
    }

-- condition 6, part by part
record Priced (bytes : List ℕ) (at : Layout) : Type 0 where
  scores : bad_scores bytes at.scores.start ((at.nuclei.count + at.added_anchors.count) * at.scores.count) ≡ false
  per_frame : not (within thousand (f64_at bytes at.costs)) ≡ false
  insertion : not (within thousand (f64_at bytes (at.costs + insertion_at))) ≡ false
  unvoiced : not (within million (f32_at bytes (at.costs + unvoiced_at))) ≡ false
  first : bad_table bytes (first_table at.costs) ≡ false
  second : (ltb 0 at.added_anchors.count && bad_table bytes (second_table at.costs)) ≡ false

priced : (bytes : List ℕ) (at : Layout) → bad_cost bytes at ≡ false → Priced bytes at
unfolding bad_cost
priced bytes at e =
    record {
      scores = search (neither_left, neither_right) depth 8;
      per_frame = search (neither_left, neither_right) depth 8;
      insertion = search (neither_left, neither_right) depth 8;
      unvoiced = search (neither_left, neither_right) depth 8;
      first = search (neither_left, neither_right) depth 8;
      second = search (neither_left, neither_right) depth 8;
    }

-- ---- from the parts to the phrase

stage_fit : (bytes : List ℕ) (anchors boundaries : Section) (table : ℕ) (row a b : ℕ) → bad_list bytes anchors ≡ false → bad_list bytes boundaries ≡ false → anchors.count ≤ a → boundaries.count ≤ b → StageFit a b (record { anchors = frames_at bytes anchors; first_row = row; boundaries = frames_at bytes boundaries; duration = duration_at bytes table })
stage_fit bytes anchors boundaries table row a b fa fb la lb =
    record {
      few_anchors = subst (λ (n : ℕ). n ≤ a) (sym (length_listed _ anchors.count)) la;
      few_boundaries = subst (λ (n : ℕ). n ≤ b) (sym (length_listed _ boundaries.count)) lb;
      anchors = frames_fit bytes anchors fa;
      boundaries = frames_fit bytes boundaries fb;
    }

module _ (l : Limits) (bytes : List ℕ) (p : Passed l bytes) where
  candidate_fit : (i : ℕ) → i < (layout_of bytes).candidates.count → CandidateFit l.units (layout_of bytes).scores.count (candidate_at l bytes (layout_of bytes) i)
  candidate_fit i below =
      let q = p.candidate i below in
      let long = length_listed (column_at l bytes (layout_of bytes) i) (units_at l bytes (layout_of bytes) i) in
      record {
        some_unit = subst (λ (n : ℕ). 0 < n) (sym long) (units_some l bytes (layout_of bytes) i q.units);
        few_units = subst (λ (n : ℕ). n ≤ l.units) (sym long) (units_most_law l bytes (layout_of bytes) i q.units);
        below = λ j m.
            let inside = subst (λ (n : ℕ). j < n) long m in
            subst (λ (n : ℕ). n < (layout_of bytes).scores.count) (sym (get_d_listed (column_at l bytes (layout_of bytes) i) _ j 0 inside)) (leb-false _ _ (none_below _ _ q.column j inside));
      }

  ids_differ : (i j : ℕ) → i < j → j < (layout_of bytes).candidates.count → id_at l bytes (layout_of bytes) i ≡ id_at l bytes (layout_of bytes) j → ⊥
  ids_differ i j before below = eqb-false _ _ (none_below (λ k. eqb (id_at l bytes (layout_of bytes) k) (id_at l bytes (layout_of bytes) j)) j (p.candidate j below).twice i before)

  pub phrase_fits : Fit l (layout_of bytes).scores.count (phrase_at l bytes (layout_of bytes))
  unfolding phrase_at
  phrase_fits =
      let at = layout_of bytes in
      let t = tracked bytes at p.track in
      let r = priced bytes at p.cost in
      let n = counted l bytes (sized l (trailer_of bytes) p.size) in
      let long = length_listed (candidate_at l bytes at) at.candidates.count in
      let anchors : length (frames_at bytes at.added_anchors) ≡ at.added_anchors.count = length_listed _ _ in
      let nuclei : length (frames_at bytes at.nuclei) ≡ at.nuclei.count = length_listed _ _ in
      let mask : length (mask_at bytes at.mask) ≡ at.mask.count = length_listed _ _ in
      record {
        few_frames = subst (λ (k : ℕ). k ≤ l.frames) (sym mask) n.frames;
        mask = λ i below.
            let inside = subst (λ (k : ℕ). i < k) mask below in
            subst (λ (k : ℕ). k ≤ 1) (sym (get_d_listed _ _ i 0 inside)) (ltb-false _ _ (none_below _ _ t.mask i inside));
        nuclei = stage_fit bytes at.nuclei at.boundaries _ _ _ _ t.nuclei t.boundaries n.nuclei n.boundaries;
        added = stage_fit bytes at.added_anchors at.added_boundaries _ _ _ _
            t.added_anchors t.added_boundaries n.added_anchors n.added_boundaries;
        nothing_added = λ none. length_listed _ at.added_boundaries.count ∙ n.nothing_added (sym anchors ∙ none);
        speech = λ start end e. edges_fit (eqb (speech_start bytes at.costs) absent && eqb (speech_end bytes at.costs) absent) (speech_start bytes at.costs) (speech_end bytes at.costs) start end t.speech e;
        some_column = n.some_column;
        few_columns = n.columns;
        scores = λ row column below inside.
            let rows : row < at.nuclei.count + at.added_anchors.count = omega arith in
            score_fits_law (u32_at bytes (at.scores.start + 4 * (row * at.scores.count + column))) (none_below _ _ r.scores (row * at.scores.count + column) (digits_lt rows inside));
        per_frame = cost_fits_law (u64_at bytes at.costs) r.per_frame;
        insertion = cost_fits_law (u64_at bytes (at.costs + insertion_at)) r.insertion;
        unvoiced = score_fits_law (u32_at bytes (at.costs + unvoiced_at)) r.unvoiced;
        durations = table_fits bytes (first_table at.costs) r.first;
        added_durations = λ some.
            table_fits bytes (second_table at.costs) (and_fails _ _ r.second (lt-ltb 0 at.added_anchors.count (omega arith)));
        some_candidate = subst (λ (k : ℕ). 0 < k) (sym long) (not_zero _ p.bare);
        few_candidates = subst (λ (k : ℕ). k ≤ l.candidates) (sym long) n.candidates;
        candidates = λ i other below.
            let inside = subst (λ (k : ℕ). i < k) long below in
            subst (CandidateFit l.units at.scores.count) (sym (get_d_listed (candidate_at l bytes at) _ i other inside)) (candidate_fit i inside);
        distinct = λ i j other before below e.
            let inside = subst (λ (k : ℕ). j < k) long below in
            let one = get_d_listed (candidate_at l bytes at) _ i other (lt_trans before inside) in
            let two = get_d_listed (candidate_at l bytes at) _ j other inside in
            ids_differ i j before inside (ap (λ (x : Candidate). x.id) (sym one) ∙ e ∙ ap (λ (x : Candidate). x.id) two);
      }

-- a layout names the edition that the trailer names
pub layout_limits : (bytes : List ℕ) {at : Layout} → at ≡ layout_of bytes → limits_at at ≡ limits_of bytes
unfolding layout_of layout_from
layout_limits bytes laid = ap limits_at laid

pub laid_limits : {bytes : List ℕ} {at : Layout} → Laid bytes at → limits_at at ≡ limits_of bytes
laid_limits {bytes} h = layout_limits bytes h.layout

-- its numbers are moderate, whichever it is
pub own_moderate : (bytes : List ℕ) → Moderate (limits_of bytes)
own_moderate bytes = moderate (trailer_of bytes).edition

pub laid_passed : {bytes : List ℕ} {at : Layout} → Laid bytes at → Passed (limits_of bytes) bytes
unfolding refusal_of
laid_passed {bytes} h = none_holds (limits_of bytes) bytes ((none_exactly (own_rules (limits_of bytes) bytes)).0 h.accepted)

-- an accepted record has a trailer
pub laid_long : {bytes : List ℕ} {at : Layout} → Laid bytes at → trailer_bytes ≤ length bytes
laid_long {bytes} h = ltb-false _ _ (neither_left (ltb (length bytes) trailer_bytes) (ltb record_bytes (length bytes)) (laid_passed h).stub)

-- the counts of an accepted record are within their limits
pub counts : {bytes : List ℕ} {at : Layout} → Laid bytes at → Counted (limits_at at) at
counts {bytes} {at} h =
    subst⁻¹ (λ (l : Limits). Counted l at) (laid_limits h)
    (subst⁻¹ (Counted (limits_of bytes)) h.layout (counted (limits_of bytes) bytes (sized (limits_of bytes) (trailer_of bytes) (laid_passed h).size)))

-- the law for those above: an accepted record's phrase fits
pub fit_at : {bytes : List ℕ} {at : Layout} → Laid bytes at → Fit (limits_of bytes) at.scores.count (phrase_at (limits_of bytes) bytes at)
fit_at {bytes} h =
    subst⁻¹ (λ (x : Layout). Fit (limits_of bytes) x.scores.count (phrase_at (limits_of bytes) bytes x)) h.layout (phrase_fits (limits_of bytes) bytes (laid_passed h))

pub meaning : {bytes : List ℕ} {at : Layout} → Laid bytes at → phrase_at (limits_of bytes) bytes at ≡ phrase_of bytes
unfolding phrase_of
meaning {bytes} h = ap (phrase_at (limits_of bytes) bytes) h.layout

pub fit : {bytes : List ℕ} {at : Layout} → Laid bytes at → Fit (limits_of bytes) at.scores.count (phrase_of bytes)
fit {bytes} {at} h = subst (Fit (limits_of bytes) at.scores.count) (meaning h) (fit_at h)
