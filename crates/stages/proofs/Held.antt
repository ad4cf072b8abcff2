-- Counting kept anchors: those before a boundary, those between two, and those ahead of one.
use Prim.Native.Nat.{ℕ, zero, suc, ◌+◌, ◌-◌, ◌≤◌, ◌<◌, min}
use mathlib.Core.Path.{◌≡◌, refl, sym, ap, ap₂, ◌∙◌}
use mathlib.Core.Bool.{Bool, true, false, ◌&&◌, cond}
use mathlib.Core.List.{List, [], ◌∷◌, map, tail}
use native.Mathlib.Omega.{arith}
use native.Mathlib.Numerals.{add-one}
use lib.Dec.{ltb, leb}
use lib.ListN.{length, get_or, drop, length-map, drop_of_length-le}
use borrow.Author.Tests.{lt-ltb, le-ltb, le-leb, lt-leb, ltb-true}
use Rattle.laws.proofs.Numbers.{by_order}
use Rattle.laws.proofs.Choices.{and_left}
use Rattle.laws.proofs.Listed.{padded_in, padded_out}
use Rattle.laws.specs.Inner.Tables.{padded}
use Rattle.paths.specs.Frames.{within_mask}
use Rattle.paths.specs.Inner.Order.{Increasing}
use Rattle.paths.specs.Anchors.{Anchor, select, numbered, kept_in, held_in}
use Rattle.paths.specs.Theory.LookAhead.{ahead}
use Rattle.stages.specs.Kept.{frames_of}
use Rattle.stages.specs.Places.{Climbs, count_below}
use Rattle.stages.proofs.Places.{one_counted, none_counted, none_below}

-- every anchor lies below a frame
abbrev pub Below : ℕ → List Anchor → Type 0
Below end [] = Unit
Below end (anchor ∷ anchors) = (anchor.frame < end) × Below end anchors

-- an anchor that stands in a list of frames, at its row counted from that of the first
pub record IsListed (row : ℕ) (frames : List ℕ) (anchor : Anchor) : Type 0 where
  pub from : row ≤ anchor.row
  pub within : anchor.row - row < length frames
  pub there : get_or frames (anchor.row - row) 0 ≡ anchor.frame

abbrev pub AllListed : ℕ → List ℕ → List Anchor → Type 0
AllListed row frames [] = Unit
AllListed row frames (anchor ∷ anchors) = IsListed row frames anchor × AllListed row frames anchors

pub listed_at : (row : ℕ) (frames : List ℕ) (anchors : List Anchor) → AllListed row frames anchors → (place : ℕ) (none : Anchor)
    → place < length anchors
    → IsListed row frames (get_or anchors place none)
listed_at row frames [] listed place none h = absurd (omega arith)
listed_at row frames (anchor ∷ anchors) listed zero none h = listed.0
listed_at row frames (anchor ∷ anchors) listed (suc place) none h = listed_at row frames anchors listed.1 place none (omega arith)

listed_first : (row frame : ℕ) (frames : List ℕ) → IsListed row (frame ∷ frames) (record { frame = frame; row = row })
listed_first row frame frames =
    let e : row - row ≡ 0 = omega arith in
    record { from = omega arith; within = omega arith; there = ap (λ (i : ℕ). get_or (frame ∷ frames) i 0) e }

listed_further : (row frame : ℕ) (frames : List ℕ) (anchors : List Anchor) → AllListed (suc row) frames anchors
    → AllListed row (frame ∷ frames) anchors
listed_further row frame frames [] listed = tt
listed_further row frame frames (anchor ∷ anchors) listed = (one listed.0, listed_further row frame frames anchors listed.1)
  where
    one : IsListed (suc row) frames anchor → IsListed row (frame ∷ frames) anchor
    one is =
        let e : anchor.row - row ≡ suc (anchor.row - suc row) = omega (arith, is.from) in record {
          from = omega (arith, is.from);
          within = omega (arith, is.within);
          there = ap (λ (i : ℕ). get_or (frame ∷ frames) i 0) e ∙ is.there;
        }

-- how many of a list pass a test, one at a time
taken_in : (test : Anchor → Bool) (anchor : Anchor) (anchors : List Anchor) → test anchor ≡ true
    → length (select test (anchor ∷ anchors)) ≡ suc (length (select test anchors))
unfolding select
taken_in test anchor anchors e = ap (λ (b : Bool). length (cond b (anchor ∷ select test anchors) (select test anchors))) e

left_out : (test : Anchor → Bool) (anchor : Anchor) (anchors : List Anchor) → test anchor ≡ false
    → length (select test (anchor ∷ anchors)) ≡ length (select test anchors)
unfolding select
left_out test anchor anchors e = ap (λ (b : Bool). length (cond b (anchor ∷ select test anchors) (select test anchors))) e

module _ (anchor : Anchor) (anchors : List Anchor) (from to : ℕ) where
  holds_it : from ≤ anchor.frame → anchor.frame < to → length (held_in (anchor ∷ anchors) from to) ≡ suc (length (held_in anchors from to))
  unfolding held_in
  holds_it h k =
      taken_in (λ a. leb from a.frame && ltb a.frame to) anchor anchors
      (ap₂ ◌&&◌ (le-leb from anchor.frame h) (lt-ltb anchor.frame to k))

  before_it : anchor.frame < from → length (held_in (anchor ∷ anchors) from to) ≡ length (held_in anchors from to)
  unfolding held_in
  before_it h =
      left_out (λ a. leb from a.frame && ltb a.frame to) anchor anchors
      (ap (λ (b : Bool). b && ltb anchor.frame to) (lt-leb from anchor.frame h))

  after_it : from ≤ anchor.frame → to ≤ anchor.frame → length (held_in (anchor ∷ anchors) from to) ≡ length (held_in anchors from to)
  unfolding held_in
  after_it h k =
      left_out (λ a. leb from a.frame && ltb a.frame to) anchor anchors
      (ap₂ ◌&&◌ (le-leb from anchor.frame h) (le-ltb anchor.frame to k))

-- the anchors before a boundary, counted by their frames
pub held_count : (anchors : List Anchor) (bound : ℕ) → length (held_in anchors 0 bound) ≡ count_below (frames_of anchors) bound
unfolding held_in select count_below
held_count [] bound = refl
held_count (anchor ∷ anchors) bound =
    let known = held_count anchors bound in
    by_order anchor.frame bound
    (λ less. holds_it anchor anchors 0 bound (omega arith) less ∙ ap suc known ∙ sym (one_counted anchor.frame bound _ less))
    (λ more. after_it anchor anchors 0 bound (omega arith) more ∙ known ∙ sym (none_counted anchor.frame bound _ more))

-- those before `to` are those before `from` and those between, of anchors below the end that both are clamped to
pub held_on : (anchors : List Anchor) (end from to : ℕ) → Below end anchors → min from end ≤ min to end
    → length (held_in anchors 0 to) ≡ length (held_in anchors 0 from) + length (held_in anchors from to)
unfolding held_in select
held_on [] end from to below h = refl
held_on (anchor ∷ anchors) end from to below h =
    let known = held_on anchors end from to below.1 h in
    by_order anchor.frame from
    (λ less.
    omega (
      arith,
      known,
      below.0,
      holds_it anchor anchors 0 from (omega arith) less,
      before_it anchor anchors from to less,
      holds_it anchor anchors 0 to (omega arith) (omega (arith, below.0)),
    ))
    (λ more. by_order anchor.frame to
    (λ less.
    omega (
      arith,
      known,
      after_it anchor anchors 0 from (omega arith) more,
      holds_it anchor anchors from to more less,
      holds_it anchor anchors 0 to (omega arith) less,
    ))
    (λ more'.
    omega (
      arith,
      known,
      after_it anchor anchors 0 from (omega arith) more,
      after_it anchor anchors from to more more',
      after_it anchor anchors 0 to (omega arith) more',
    )))

pub all_below : (anchors : List Anchor) (end bound : ℕ) → Below end anchors → end ≤ bound
    → count_below (frames_of anchors) bound ≡ length anchors
unfolding count_below
all_below [] end bound below h = refl
all_below (anchor ∷ anchors) end bound below h =
    one_counted anchor.frame bound _ (omega (arith, below.0)) ∙ ap suc (all_below anchors end bound below.1 h)

-- A frame within the mask is below its end.
within_below : (mask : List ℕ) (frame : ℕ) → within_mask mask frame ≡ true → frame < length mask
unfolding within_mask
within_below mask frame e = ltb-true frame (length mask) (and_left (ltb frame (length mask)) _ e)

module _ (mask : List ℕ) where
  -- for whatever is shown of the kept anchors, by whether the first listed one is kept
  kept_either : (P : List Anchor → Type 0) (row frame : ℕ) (frames : List ℕ)
      → (frame < length mask → P (record { frame = frame; row = row } ∷ kept_in mask (suc row) frames)) → P (kept_in mask (suc row) frames)
      → P (kept_in mask row (frame ∷ frames))
  unfolding kept_in select numbered
  kept_either P row frame frames kept dropped = go (within_mask mask frame) (within_below mask frame)
    where
      go : (b : Bool) → (b ≡ true → frame < length mask)
          → P (cond b (record { frame = frame; row = row } ∷ kept_in mask (suc row) frames) (kept_in mask (suc row) frames))
      go true below = kept (below refl)
      go false below = dropped

  pub kept_below : (row : ℕ) (frames : List ℕ) → Below (length mask) (kept_in mask row frames)
  unfolding kept_in select numbered
  kept_below row [] = tt
  kept_below row (frame ∷ frames) =
      let known = kept_below (suc row) frames in
      kept_either (λ anchors. Below (length mask) anchors) row frame frames (λ below. (below, known)) known

  pub kept_few : (row : ℕ) (frames : List ℕ) → length (kept_in mask row frames) ≤ length frames
  unfolding kept_in select numbered
  kept_few row [] = omega arith
  kept_few row (frame ∷ frames) =
      let known = kept_few (suc row) frames in
      kept_either (λ anchors. length anchors ≤ suc (length frames)) row frame frames (λ below. omega (arith, known)) (omega (arith, known))

  -- kept anchors ascend where the listed ones do, up to any frame that the mask does not pass
  pub kept_climbs : (high low row : ℕ) (frames : List ℕ) → length mask ≤ high → low ≤ high → Increasing frames
      → (0 < length frames → low ≤ get_or frames 0 0)
      → Climbs low high (frames_of (kept_in mask row frames))
  unfolding kept_in select numbered
  kept_climbs high low row [] mask-high low-high increasing first = low-high
  kept_climbs high low row (frame ∷ frames) mask-high low-high increasing first =
      let later : Increasing frames = λ i h. increasing (suc i) (omega arith) in
      let next : 0 < length frames → frame < get_or frames 0 0 = λ h. increasing 0 (omega arith) in
      kept_either (λ anchors. Climbs low high (frames_of anchors)) row frame frames
      (λ below.
      (first (omega arith), kept_climbs high frame (suc row) frames mask-high (omega arith) later (λ h. omega (arith, next h))))
      (kept_climbs high low (suc row) frames mask-high low-high later (λ h. omega (arith, next h, first (omega arith))))

  -- the row of a kept anchor, counted from the first, is its place among the listed frames
  pub kept_listed : (row : ℕ) (frames : List ℕ) → AllListed row frames (kept_in mask row frames)
  unfolding kept_in select numbered
  kept_listed row [] = tt
  kept_listed row (frame ∷ frames) =
      let known = listed_further row frame frames (kept_in mask (suc row) frames) (kept_listed (suc row) frames) in
      kept_either (AllListed row (frame ∷ frames)) row frame frames (λ below. (listed_first row frame frames, known)) known

-- the anchors at or after a boundary are those from its place on
pub ahead_drop : (anchors : List Anchor) (low high bound : ℕ) → Climbs low high (frames_of anchors)
    → ahead anchors bound ≡ drop (count_below (frames_of anchors) bound) anchors
unfolding ahead select count_below
ahead_drop [] low high bound climbs = refl
ahead_drop (anchor ∷ anchors) low high bound climbs =
    let known = ahead_drop anchors anchor.frame high bound climbs.1 in
    by_order anchor.frame bound
    (λ less. simp (lt-leb bound anchor.frame less, lt-ltb anchor.frame bound less) known)
    (λ more.
    let none : count_below (frames_of anchors) bound ≡ 0 = none_below (frames_of anchors) anchor.frame high bound climbs.1 more in
    simp (le-leb bound anchor.frame more, le-ltb anchor.frame bound more, none)
    (ap (λ (rest : List Anchor). anchor ∷ rest) (known ∙ ap (λ (n : ℕ). drop n anchors) none)))

-- one figure of the anchors from a place on: that of the first, or what stands for none
pub figure_from : (f : Anchor → ℕ) (g : List Anchor → ℕ) → ((anchor : Anchor) (anchors : List Anchor) → g (anchor ∷ anchors) ≡ f anchor)
    → (anchors : List Anchor) (size place : ℕ) → place < size → get_or (padded (map f anchors) size (g [])) place 0 ≡ g (drop place anchors)
figure_from f g first anchors size place h = by_order place (length anchors) inside outside
  where
    at : (some : List Anchor) (p : ℕ) → p < length some → get_or (map f some) p 0 ≡ g (drop p some)
    at [] p k = omega arith
    at (anchor ∷ some) zero k = sym (first anchor some)
    at (anchor ∷ some) (suc p) k = at some p (omega arith)

    inside : place < length anchors → get_or (padded (map f anchors) size (g [])) place 0 ≡ g (drop place anchors)
    inside k = padded_in (map f anchors) size (g []) 0 place (omega (arith, length-map anchors f)) ∙ at anchors place k

    outside : length anchors ≤ place → get_or (padded (map f anchors) size (g [])) place 0 ≡ g (drop place anchors)
    outside k =
        padded_out (map f anchors) size (g []) 0 place (omega (arith, length-map anchors f)) h
        ∙ ap g (sym (drop_of_length-le anchors k))

-- the anchors after the first from a place on
pub tail_drop : (anchors : List Anchor) (place : ℕ) → tail (drop place anchors) ≡ drop (place + 1) anchors
tail_drop anchors place = go anchors place ∙ ap (λ (n : ℕ). drop n anchors) (sym (add-one place))
  where
    go : (some : List Anchor) (p : ℕ) → tail (drop p some) ≡ drop (suc p) some
    go [] zero = refl
    go [] (suc p) = refl
    go (anchor ∷ some) zero = refl
    go (anchor ∷ some) (suc p) = go some p
