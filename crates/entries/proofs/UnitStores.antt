-- Words written one part behind the other.
use Rattle.std.proofs.Common.{◌≡◌, ℕ, ◌+◌, ◌-◌, ◌*◌, ◌≤◌, ◌<◌, List, [], ◌∷◌, ◌++◌, length, map, take, drop, get_or, sym, ap, ap₂, ◌∙◌, arith, append_assoc, unwrap_or, replicate}
use Rattle.std.proofs.lemmas.List.{take_at, drop_at, drop-drop, map_more, length-append, length-map, length-replicate, length-take-le}
use Rattle.std.specs.Float.{binary32}
use Rattle.std.specs.Float.Ieee.{to_bits}
use borrow.Rule.Slice.PartMut.{put_mid}
use Rattle.limits.specs.Common.{absent}
use Rattle.limits.specs.Sizes.{head_words, entry_words}
use Rattle.frames.specs.declared.unit.PlacedUnit.{PlacedUnit}
use Rattle.entries.specs.Entry.{Entry}
use Rattle.entries.specs.Words.{low_half, high_half, sum_bits, unit_words, words_of}
use Rattle.entries.specs.Inner.EntryFrom.{unit_from}
use Rattle.entries.proofs.EntryWords.{length_unit_words, unit_words_append}

-- one more part, up to word b
behind : (a b : ℕ) (xs ys old : List ℕ) → length xs ≡ a → a + length ys ≡ b → put_mid a (b - a) (xs ++ drop a old) ys ≡ xs ++ ys ++ drop b old
behind a b xs ys old first both =
    let more : b - a ≡ length ys = omega arith in
    ap₂ (λ (front rest : List ℕ). front ++ (ys ++ drop (b - a) rest)) (take_at xs (drop a old) a first) (drop_at xs (drop a old) a first)
    ∙ ap (λ (rest : List ℕ). xs ++ (ys ++ rest))
    (drop-drop (b - a) a old ∙ ap (λ (n : ℕ). drop n old) (let e : a + (b - a) ≡ b = omega arith in e))
    ∙ sym (append_assoc xs ys (drop b old))

-- one more unit
pub units_more : (units : List PlacedUnit) (i row : ℕ) (d : PlacedUnit) (old out words : List ℕ) → i < length units
    → out ≡ unit_words (map unit_from (take i units)) ++ drop (3 * i) old
    → row ≡ unwrap_or (get_or units i d).row absent
    → words ≡ (get_or units i d).span.start ∷ (get_or units i d).span.end ∷ row ∷ []
    → put_mid (3 * i) (3 * i + 3 - 3 * i) out words ≡ unit_words (map unit_from (take (i + 1) units)) ++ drop (3 * (i + 1)) old
unfolding unit_words
units_more units i row d old out words below is row_is words_are =
    let unit = get_or units i d in
    let done : List ℕ = unit_words (map unit_from (take i units)) in
    let long : length done ≡ 3 * i =
    length_unit_words (map unit_from (take i units))
    ∙ omega (arith, length-map (take i units) unit_from, length-take-le i units (omega arith)) in
    let with_unit : done ++ words ≡ unit_words (map unit_from (take (i + 1) units)) =
    ap (λ (ws : List ℕ). done ++ ws) (words_are ∙ ap (λ (n : ℕ). unit.span.start ∷ unit.span.end ∷ n ∷ []) row_is)
    ∙ sym (ap unit_words (map_more unit_from units i d below) ∙ unit_words_append (map unit_from (take i units)) (unit_from unit ∷ [])) in
    ap (λ (ws : List ℕ). put_mid (3 * i) (3 * i + 3 - 3 * i) ws words) is
    ∙ behind (3 * i) (3 * i + 3) done words old long (omega (arith, ap length words_are))
    ∙ ap₂ (λ (front : List ℕ) (n : ℕ). front ++ drop n old) with_unit (let e : 3 * i + 3 ≡ 3 * (i + 1) = omega arith in e)

-- the head, the units and the zeros that fill up: the words of the entry
pub stored_in_front : (most : ℕ) (e : Entry) (old head units zeros : List ℕ) (k : ℕ) → length e.units ≡ k → k ≤ most
    → head ≡ e.id ∷ to_bits binary32 e.llr ∷ e.pass ∷ k ∷ low_half (sum_bits e) ∷ high_half (sum_bits e) ∷ []
    → units ≡ unit_words e.units
    → zeros ≡ replicate (entry_words most - (head_words + 3 * k)) 0
    → put_mid (head_words + 3 * k) (entry_words most - (head_words + 3 * k))
    (put_mid head_words (head_words + 3 * k - head_words) (head ++ drop head_words old) units) zeros
    ≡ words_of most e ++ drop (entry_words most) old
unfolding words_of
stored_in_front most e old head units zeros k counted few heads listed filled =
    let used : ℕ = head_words + 3 * k in
    let long : length units ≡ 3 * k = ap length listed ∙ length_unit_words e.units ∙ ap (λ (n : ℕ). 3 * n) counted in
    let left : entry_words most - used ≡ 3 * (most - length e.units) = omega arith in
    ap (λ (ws : List ℕ). put_mid used (entry_words most - used) ws zeros)
    (behind head_words used head units old (ap length heads) (omega arith))
    ∙ behind used (entry_words most) (head ++ units) zeros old
    (length-append head units ∙ omega (arith, ap length heads))
    (omega (arith, ap length filled, length-replicate {A = ℕ} (entry_words most - used) 0))
    ∙ ap (λ (ws : List ℕ). ws ++ drop (entry_words most) old)
    (append_assoc head units zeros
    ∙ ap₂ (λ (xs ys : List ℕ). xs ++ ys)
    (heads ∙ ap (λ (n : ℕ). e.id ∷ to_bits binary32 e.llr ∷ e.pass ∷ n ∷ low_half (sum_bits e) ∷ high_half (sum_bits e) ∷ []) (sym counted))
    (ap₂ (λ (xs ys : List ℕ). xs ++ ys) listed (filled ∙ ap (λ (n : ℕ). replicate n 0) left)))
