-- A list that holds the uncut spans of a stage's ascending frames: cut, it holds the frames' spans.
use Prim.Native.Nat.{ℕ, zero, suc, ◌+◌, ◌≤◌, ◌<◌}
use mathlib.Core.Bool.{cond}
use mathlib.Core.Path.{◌≡◌, refl, sym, ap, ap₂, ◌∙◌}
use mathlib.Core.List.{List, [], ◌∷◌, ◌++◌, map}
use native.Mathlib.Numerals.{add-one}
use native.Mathlib.Omega.{arith}
use borrow.Author.Tests.{lt-ltb, le-ltb}
use lib.Dec.{ltb}
use lib.ListN.{length, get_or, set, drop}
use lib.Seq.{map-set, map-set_same}
use Rattle.std.proofs.lemmas.List.{drop-map, map-append}
use Rattle.laws.specs.Listed.{listed}
use Rattle.laws.specs.Inner.Tables.{written}
use Rattle.laws.proofs.Listed.{written_at}
use Rattle.laws.proofs.Numbers.{by_order}
use Rattle.laws.proofs.Rewriting.{written_alike, written_over}
use Rattle.spans.specs.Spans.{uncut_start, uncut_end, cut, span_of}
use Rattle.frames.specs.declared.span.Span.{Span}
use Rattle.spans.specs.Inner.Walk.{Increasing, starts_of, ends_of, uncut_span, cut_start, cut_end, cut_span}
use Rattle.spans.proofs.Splits.{none_before, highest_before, none_from, lowest_at, own_split, next_split}

-- one turn of the walk over neighbours i and i + 1, which has read s and e; and the last end, which has no neighbour
module _ (frames starts ends : List ℕ) (i : ℕ) where
  module _ (s e at : ℕ) (start : s ≡ get_or starts (i + 1) 0) (end : e ≡ get_or ends i 0) (met : at ≡ cut (get_or frames i 0) (get_or frames (i + 1) 0)) where
    pub turn_start : cond (ltb s e) at s ≡ cut_start frames starts ends (i + 1)
    unfolding cut_start
    turn_start = rw (start, end, met, add-one i)

    pub turn_end : i + 1 < length frames → cond (ltb s e) at e ≡ cut_end frames starts ends i
    unfolding cut_end
    turn_end more = let next : suc i < length frames = omega arith in rw (start, end, met, add-one i, lt-ltb (suc i) (length frames) next)

  pub last_end : length frames ≤ i + 1 → get_or ends i 0 ≡ cut_end frames starts ends i
  unfolding cut_end
  last_end last = let none : length frames ≤ suc i = omega arith in rw (le-ltb (suc i) (length frames) none)

-- ---- a list of spans by its edges

-- spans written over the front of a list are edges written over those of the list
mapped : {B : Type 0} (edge : Span → B) (f : ℕ → Span) (n : ℕ) → map edge (listed f n) ≡ listed (λ i. edge (f i)) n
unfolding listed
mapped edge f zero = refl
mapped {B} edge f (suc n) = ap (λ (l : List B). edge (f 0) ∷ l) (mapped edge (λ i. f (suc i)) n)

pub edges_written : {B : Type 0} (edge : Span → B) (f : ℕ → Span) (n : ℕ) (old : List Span)
    → map edge (written f n old) ≡ written (λ i. edge (f i)) n (map edge old)
edges_written edge f n old =
    map-append edge (listed f n) (drop n old) ∙ ap₂ ◌++◌ (mapped edge f n) (sym (drop-map edge n old))

-- a list is known by its edges
same_span : {s t : Span} → s.start ≡ t.start → s.end ≡ t.end → s ≡ t
same_span e h = λ x. record { start = e x; end = h x }

by_edges : (xs ys : List Span) → starts_of xs ≡ starts_of ys → ends_of xs ≡ ends_of ys → xs ≡ ys
by_edges [] [] e h = refl
by_edges [] (y ∷ ys) e h = absurd (let long = ap (length {_}) e in omega arith)
by_edges (x ∷ xs) [] e h = absurd (let long = ap (length {_}) e in omega arith)
by_edges (x ∷ xs) (y ∷ ys) e h =
    ap₂ ◌∷◌ (same_span (ap (λ (l : List ℕ). get_or l 0 0) e) (ap (λ (l : List ℕ). get_or l 0 0) h))
    (by_edges xs ys (ap (drop 1) e) (ap (drop 1) h))

-- both edges written
pub spans_written : (f : ℕ → Span) (n : ℕ) (old now : List Span) → starts_of now ≡ written (λ i. (f i).start) n (starts_of old)
    → ends_of now ≡ written (λ i. (f i).end) n (ends_of old) → now ≡ written f n old
spans_written f n old now starts ends =
    by_edges now (written f n old) (starts ∙ sym (edges_written (λ s. s.start) f n old)) (ends ∙ sym (edges_written (λ s. s.end) f n old))

-- one edge of each of two spans stored
module _ (spans : List Span) (i j start end : ℕ) where
  abbrev one : List Span
  one = set spans j (record { start = start; end = (get_or spans j (record { start = 0; end = 0 })).end })

  abbrev both : List Span
  both = set one i (record { start = (get_or one i (record { start = 0; end = 0 })).start; end = end })

  pub starts_both : starts_of both ≡ set (starts_of spans) j start
  starts_both =
      map-set_same (λ s. s.start) one i (record { start = (get_or one i (record { start = 0; end = 0 })).start; end = end }) (record { start = 0; end = 0 }) refl
      ∙ map-set (λ s. s.start) spans j (record { start = start; end = (get_or spans j (record { start = 0; end = 0 })).end })

  pub ends_both : ends_of both ≡ set (ends_of spans) i end
  ends_both =
      map-set (λ s. s.end) one i (record { start = (get_or one i (record { start = 0; end = 0 })).start; end = end })
      ∙ ap (λ (l : List ℕ). set l i end)
      (map-set_same (λ s. s.end) spans j (record { start = start; end = (get_or spans j (record { start = 0; end = 0 })).end }) (record { start = 0; end = 0 }) refl)

-- the list holds the uncut spans
module _ (frames bounds : List ℕ) (lo hi : ℕ) (up : Increasing frames) (spans old : List Span)
    (uncut : spans ≡ written (λ i. uncut_span bounds lo hi (get_or frames i 0)) (length frames) old) where
  edge_at : (edge : Span → ℕ) (i : ℕ) → i < length frames → get_or (map edge spans) i 0 ≡ edge (uncut_span bounds lo hi (get_or frames i 0))
  edge_at edge i h =
      ap (λ (l : List Span). get_or (map edge l) i 0) uncut
      ∙ ap (λ (l : List ℕ). get_or l i 0) (edges_written edge _ (length frames) old)
      ∙ written_at _ (length frames) (map edge old) 0 i h

  start : (i : ℕ) → i < length frames → get_or (starts_of spans) i 0 ≡ uncut_start bounds lo (get_or frames i 0)
  start i h = edge_at (λ s. s.start) i h

  end : (i : ℕ) → i < length frames → get_or (ends_of spans) i 0 ≡ uncut_end bounds hi (get_or frames i 0)
  end i h = edge_at (λ s. s.end) i h

  start_cut_at : (i : ℕ) → i < length frames → cut_start frames (starts_of spans) (ends_of spans) i ≡ (span_of frames bounds lo hi (get_or frames i 0)).start
  unfolding cut_start span_of
  start_cut_at zero h = start 0 h ∙ rw (none_before (get_or frames 0 0) frames up (own_split frames up 0 h))
  start_cut_at (suc i) h =
      let before : i < length frames = omega arith in
      rw (start (suc i) h, end i before, highest_before (get_or frames (suc i) 0) frames up i (own_split frames up (suc i) h))

  end_cut_at : (i : ℕ) → i < length frames → cut_end frames (starts_of spans) (ends_of spans) i ≡ (span_of frames bounds lo hi (get_or frames i 0)).end
  unfolding cut_end span_of
  end_cut_at i h =
      let split = next_split frames up i h in
      let past = get_or frames i 0 + 1 in
      by_order (suc i) (length frames)
      (λ next. rw (lt-ltb (suc i) (length frames) next, start (suc i) next, end i h, lowest_at past frames up (suc i) split next))
      (λ last. rw (le-ltb (suc i) (length frames) last, end i h, none_from past frames (suc i) split last))

  pub spans_cut : written (cut_span frames spans) (length frames) spans
      ≡ written (λ i. span_of frames bounds lo hi (get_or frames i 0)) (length frames) old
  spans_cut =
      written_alike _ _ (length frames) spans (λ i h. same_span (start_cut_at i h) (end_cut_at i h))
      ∙ ap (written _ (length frames)) uncut
      ∙ written_over _ _ (length frames) old
