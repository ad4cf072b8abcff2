-- Where the sections of an accepted record stand, and what stands there: laws for its readers.
use Prim.Native.Nat.{ℕ, ◌≤◌, ◌<◌}
use mathlib.Core.Bool.{Bool, false, not}
use mathlib.Core.List.{List, [], ◌∷◌}
use mathlib.Core.Option.{none}
use mathlib.Core.Path.{◌≡◌, refl, sym, ap, subst, subst⁻¹, ◌∙◌}
use native.Mathlib.Nat.{le_trans}
use native.Mathlib.Omega.{arith}
use lib.ListN.{length}
use lib.Dec.{T}
use lib.Ieee.{Float, Format, binary64, of_bits, is_nan, nan_bits}
use lib.Ieee.Bits.{nan_bits_is}
use Rattle.laws.specs.Inner.Each.{Each, each_none, each_more}
use Rattle.laws.specs.Rules.{Rule, first_of}
use Rattle.laws.proofs.Rules.{Fails, none_exactly}
use Rattle.laws.proofs.Listed.{length_listed, get_d_listed}
use Rattle.limits.specs.Capacity.{most_units}
use Rattle.ieee.proofs.Value.{finite_number}
use Rattle.ieee.specs.Inner.Value as Fine
use Rattle.phrase.specs.Phrase.{Phrase}
use Rattle.record.specs.Inner.Bounds.{Reaching, Within, CandidatesRead}
use Rattle.limits.specs.Common.{shortest_unit, longest_unit, largest_figure}
use Rattle.record.specs.Layout.{trailer_start, trailer_of, layout_from, layout_of, limits_of, limits_at}
use Rattle.record.specs.Conditions.{overreaching}
use Rattle.record.specs.Refusals.{trailer_rules}
use Rattle.record.specs.Meaning.{frames_at, duration_at, candidate_at, phrase_at, phrase_of, stage_of}
use Rattle.record.specs.Inner.Accepted.{Laid}
use Rattle.record.specs.Inner.Reading.{anchor_section, boundary_section, table_start, HasTable, candidate_of}
use Rattle.limits.specs.declared.edition.Limits.{Limits}
use Rattle.record.specs.declared.layout.Layout.{Layout}
use Rattle.limits.specs.declared.refusal.Refusal.{Refusal}
use Rattle.record.specs.declared.read.Which.{Which}
use Rattle.record.specs.declared.read.Which.TheVariants.{Nuclei, Count}
use Rattle.record.proofs.Sizes.{reaching, within_layout, candidates_layout}
use Rattle.record.proofs.Accepted.{layout_limits, laid_limits, own_moderate, laid_passed, meaning, fit}

-- "Rows are nuclei, then anchors."
pub nuclei_first : (bytes : List ℕ) → (phrase_of bytes).nuclei.first_row ≡ 0
unfolding phrase_of phrase_at
nuclei_first bytes = refl

pub added_next : (bytes : List ℕ) → (phrase_of bytes).added.first_row ≡ length (phrase_of bytes).nuclei.anchors
unfolding phrase_of phrase_at
added_next bytes = sym (length_listed _ (layout_of bytes).nuclei.count)

-- ---- where the sections stand, and what they mean

-- where the trailer's rules refuse nothing, 4 does not apply
pub in_reach : (bytes : List ℕ) → first_of (trailer_rules (limits_of bytes) bytes) ≡ none
    → overreaching (limits_of bytes) (trailer_start bytes) (trailer_of bytes) ≡ false
unfolding trailer_rules
in_reach bytes silent = fourth ((none_exactly _).0 silent)
  where
    fourth : {stub edition size reach : Rule Refusal} → Each Fails (stub ∷ edition ∷ size ∷ reach ∷ []) → reach.holds ≡ false
    fourth (each_more _ (each_more _ (each_more _ (each_more reach each_none)))) = reach.not_held

module _ (bytes : List ℕ) {at : Layout} (in_reach : overreaching (limits_of bytes) (trailer_start bytes) (trailer_of bytes) ≡ false) (laid : at ≡ layout_of bytes) where
  before_trailer : trailer_start bytes ≤ length bytes
  before_trailer = omega arith

  layout : at ≡ layout_from (trailer_start bytes) (trailer_of bytes)
  unfolding layout_of
  layout = laid

  reach : Reaching (limits_of bytes) (trailer_start bytes) (trailer_of bytes)
  reach = reaching (limits_of bytes) (trailer_start bytes) (trailer_of bytes) in_reach

  pub sections_in_reach : Within (length bytes) at
  sections_in_reach = subst⁻¹ (Within (length bytes)) layout (within_layout (limits_of bytes) _ _ _ reach before_trailer)

  pub candidates_in_reach : CandidatesRead (limits_at at) (length bytes) at
  candidates_in_reach =
      subst⁻¹ (λ (l : Limits). CandidatesRead l (length bytes) at) (layout_limits bytes laid)
      (subst⁻¹ (CandidatesRead (limits_of bytes) (length bytes)) layout (candidates_layout (limits_of bytes) _ _ _ (own_moderate bytes) reach before_trailer))

module _ {bytes : List ℕ} {at : Layout} (h : Laid bytes at) where
  pub sections : Within (length bytes) at
  sections = sections_in_reach bytes (laid_passed h).reach h.layout

  pub candidates_read : CandidatesRead (limits_at at) (length bytes) at
  candidates_read = candidates_in_reach bytes (laid_passed h).reach h.layout

-- ---- stages

module _ {bytes : List ℕ} {at : Layout} (h : Laid bytes at) where
  pub anchors_are : (which : Which) → frames_at bytes (anchor_section which at) ≡ (stage_of which (phrase_of bytes)).anchors
  unfolding phrase_at
  anchors_are Nuclei = ap (λ (p : Phrase). p.nuclei.anchors) (meaning h)
  anchors_are Count = ap (λ (p : Phrase). p.added.anchors) (meaning h)

  pub boundaries_are : (which : Which) → frames_at bytes (boundary_section which at) ≡ (stage_of which (phrase_of bytes)).boundaries
  unfolding phrase_at
  boundaries_are Nuclei = ap (λ (p : Phrase). p.nuclei.boundaries) (meaning h)
  boundaries_are Count = ap (λ (p : Phrase). p.added.boundaries) (meaning h)

  pub duration_is : (which : Which) (frames : ℕ) → duration_at bytes (table_start which at) frames ≡ (stage_of which (phrase_of bytes)).duration frames
  unfolding phrase_at
  duration_is Nuclei frames = ap (λ (p : Phrase). p.nuclei.duration frames) (meaning h)
  duration_is Count frames = ap (λ (p : Phrase). p.added.duration frames) (meaning h)

  pub duration_within : (which : Which) → HasTable which (phrase_of bytes) → (frames : ℕ) → shortest_unit ≤ frames → frames ≤ longest_unit → Fine.Within binary64 (duration_at bytes (table_start which at) frames) largest_figure
  duration_within Nuclei has frames least most = subst⁻¹ (λ (x : Float). Fine.Within binary64 x largest_figure) (duration_is Nuclei frames) ((fit h).durations frames least most)
  duration_within Count has frames least most = subst⁻¹ (λ (x : Float). Fine.Within binary64 x largest_figure) (duration_is Count frames) ((fit h).added_durations has frames least most)

-- ---- candidates

module _ {bytes : List ℕ} {at : Layout} (h : Laid bytes at) where
  pub candidate_count : length (phrase_of bytes).candidates ≡ at.candidates.count
  unfolding phrase_at
  candidate_count = ap (λ (p : Phrase). length p.candidates) (sym (meaning h)) ∙ length_listed (candidate_at (limits_of bytes) bytes at) at.candidates.count

  module _ {i : ℕ} (below : i < length (phrase_of bytes).candidates) where
    pub candidate_there : i < at.candidates.count
    candidate_there = subst (λ (n : ℕ). i < n) candidate_count below

    pub candidate_is : candidate_at (limits_at at) bytes at i ≡ candidate_of (phrase_of bytes) i
    unfolding phrase_at
    candidate_is =
        ap (λ (l : Limits). candidate_at l bytes at i) (laid_limits h)
        ∙ sym (get_d_listed (candidate_at (limits_of bytes) bytes at) at.candidates.count i _ candidate_there) ∙ ap (λ (p : Phrase). candidate_of p i) (meaning h)

    -- there is room for its units
    pub few_units_law : length (candidate_of (phrase_of bytes) i).columns ≤ most_units
    few_units_law = le_trans ((fit h).candidates i _ below).few_units (own_moderate bytes).units

-- ---- figures

-- the bits of a float are no NaN's exactly where the float is none
pub real_bits : (f : Format) (p : ℕ) → T (not (is_nan (of_bits f p))) → T (not (nan_bits f p))
real_bits f p real = subst⁻¹ (λ (b : Bool). T (not b)) (nan_bits_is f p) real

pub within_real : {f : Format} {x : Float} {n : ℕ} → Fine.Within f x n → T (not (is_nan x))
within_real {x = x} w = finite_number x w.real.is_finite
