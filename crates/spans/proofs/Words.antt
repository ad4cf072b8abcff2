-- Words written two by two from the output's first cell on: what is written, what is left to write, and what is untouched.
use Prim.Native.Nat.{ℕ, suc, ◌+◌, ◌*◌, ◌≤◌, ◌<◌}
use mathlib.Core.Bool.{false}
use mathlib.Core.Path.{◌≡◌, refl, sym, ap, ap₂, ◌∙◌}
use mathlib.Core.List.{List, [], ◌∷◌, ◌++◌, map, Memᴰ, append_assoc, append-nil}
use native.Mathlib.Numerals.{add-one}
use native.Mathlib.Omega.{arith}
use lib.ListN.{length, set, take, drop, length-append, length-set, take-append-drop}
use lib.Seq.{length-take-le, take-suc-set, drop-set-lt, drop-drop}
use Rattle.limits.specs.Common.{last_frame}
use Rattle.frames.specs.Frames.{ascending}
use Rattle.frames.specs.Outcome.{any_above}
use Rattle.frames.proofs.Checks.{within}
use Rattle.frames.proofs.Distinct.{only_members}
use Rattle.spans.specs.Spans.{span_of, spans_of, words_of, overwritten}
use Rattle.frames.specs.declared.span.Span.{Span}

pub record Progress (words before out : List ℕ) (at : ℕ) (ahead : List ℕ) : Type 0 where
  pub done : take at out ++ ahead ≡ words
  pub rest : drop at out ≡ drop at before
  pub same : length out ≡ length before
  pub within : at ≤ length out

-- two stores: the front is longer by two, and nothing after it has changed
module _ (out : List ℕ) (at s e : ℕ) (room : at + 2 ≤ length out) where
  two_front : take (at + 2) (set (set out at s) (at + 1) e) ≡ take at out ++ s ∷ e ∷ []
  two_front =
      let after : at + 1 < length (set out at s) = simp length-set (omega arith) in
      let inside : at < length out = omega arith in
      let last : at + 2 ≡ suc (at + 1) = omega arith in
      ap (λ (n : ℕ). take n (set (set out at s) (at + 1) e)) last
      ∙ take-suc-set (set out at s) (at + 1) e after
      ∙ ap (λ (l : List ℕ). l ++ (e ∷ [])) (ap (λ (n : ℕ). take n (set out at s)) (add-one at) ∙ take-suc-set out at s inside)
      ∙ append_assoc (take at out) (s ∷ []) (e ∷ [])

  two_rest : drop (at + 2) (set (set out at s) (at + 1) e) ≡ drop (at + 2) out
  two_rest = drop-set-lt (at + 2) (set out at s) (at + 1) e (omega arith) ∙ drop-set-lt (at + 2) out at s (omega arith)

module _ {words before out : List ℕ} {at : ℕ} where
  pub all_words : {ahead : List ℕ} → Progress words before out at ahead → at + length ahead ≡ length words
  all_words {ahead} p =
      let front = length-take-le at out p.within in
      let both = length-append (take at out) ahead in
      let total = ap length p.done in
      omega arith

  module _ {ahead next : List ℕ} {s e : ℕ} (p : Progress words before out at ahead) (two : ahead ≡ s ∷ e ∷ next) (fits : length words ≤ length before) where
    pub room : at + 2 ≤ length out
    room =
        let total = all_words p in
        let more = ap length two in
        let same = p.same in
        omega arith

    pub two_more : Progress words before (set (set out at s) (at + 1) e) (at + 2) next
    two_more =
        record {
          done =
              ap (λ (l : List ℕ). l ++ next) (two_front out at s e room) ∙ append_assoc (take at out) (s ∷ e ∷ []) next
              ∙ ap (λ (l : List ℕ). take at out ++ l) (sym two)
              ∙ p.done;
          rest = two_rest out at s e room ∙ further p.rest;
          same = length-set (set out at s) (at + 1) e ∙ length-set out at s ∙ p.same;
          within = simp length-set room;
        }
      where
        further : drop at out ≡ drop at before → drop (at + 2) out ≡ drop (at + 2) before
        further same = sym (drop-drop 2 at out) ∙ ap (drop 2) same ∙ drop-drop 2 at before

  pub all_written : Progress words before out at [] → out ≡ overwritten words before
  all_written p =
      let front : take at out ≡ words = sym (append-nil (take at out)) ∙ p.done in
      let end : at ≡ length words = (let total = all_words p in omega arith) in
      sym (take-append-drop at out) ∙ ap₂ ◌++◌ front (p.rest ∙ ap (λ (n : ℕ). drop n before) end)

pub none_written : (words out : List ℕ) → Progress words out out 0 words
none_written words out = record { done = refl; rest = refl; same = refl; within = omega arith }

-- a span is two words
pub words_length : (g : ℕ → Span) (xs : List ℕ) → length (words_of (map g xs)) ≡ 2 * length xs
unfolding words_of
words_length g [] = refl
words_length g (x ∷ xs) = let rest = words_length g xs in omega arith

-- ---- the walk that writes the spans of the frames of a list

-- so many spans are written, and those of the frames that are left are still to come
pub record Written (nuclei bounds : List ℕ) (lo hi : ℕ) (before out : List ℕ) (count : ℕ) (frames : List ℕ) : Type 0 where
  pub low : {f : ℕ} → Memᴰ f frames → f ≤ last_frame
  pub progress : Progress (words_of (spans_of nuclei bounds lo hi)) before out (2 * count) (words_of (map (span_of nuclei bounds lo hi) frames))

module _ (nuclei bounds : List ℕ) (lo hi : ℕ) where
  pub written_none : (out : List ℕ) → any_above last_frame nuclei ≡ false → Written nuclei bounds lo hi out out 0 (ascending nuclei)
  written_none out known =
      record { low = λ m. within known (only_members nuclei m); progress = none_written (words_of (spans_of nuclei bounds lo hi)) out }

  pub written_all : {before out : List ℕ} {count : ℕ} → Written nuclei bounds lo hi before out count []
      → out ≡ overwritten (words_of (spans_of nuclei bounds lo hi)) before
  unfolding words_of
  written_all written = all_written written.progress

  module _ {before out : List ℕ} {count f : ℕ} {frames : List ℕ} (written : Written nuclei bounds lo hi before out count (f ∷ frames)) where
    pub written_low : f ≤ last_frame
    written_low = written.low (Memᴰ.head refl)

    module _ (span : Span) (is : span ≡ span_of nuclei bounds lo hi f) (fits : 2 * length (ascending nuclei) ≤ length before) where
      next_span : words_of (map (span_of nuclei bounds lo hi) (f ∷ frames)) ≡ span.start ∷ span.end ∷ words_of (map (span_of nuclei bounds lo hi) frames)
      unfolding words_of
      next_span = ap (λ (s : Span). s.start ∷ s.end ∷ words_of (map (span_of nuclei bounds lo hi) frames)) (sym is)

      words_fit : length (words_of (spans_of nuclei bounds lo hi)) ≤ length before
      words_fit = rw (words_length (span_of nuclei bounds lo hi)) fits

      pub written_room : 2 * count + 2 ≤ length out
      written_room = room written.progress next_span words_fit

      pub written_more : Written nuclei bounds lo hi before (set (set out (2 * count) span.start) (2 * count + 1) span.end) (count + 1) frames
      written_more =
          let next : 2 * (count + 1) ≡ 2 * count + 2 = omega arith in
          record { low = λ m. written.low (Memᴰ.tail m); progress = rw next (two_more written.progress next_span words_fit) }
