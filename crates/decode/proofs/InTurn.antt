-- The candidates in their order: after each, the output holds the entries so far, ranked.
use Prim.Native.Nat.{ℕ, ◌+◌, ◌*◌, ◌<◌}
use mathlib.Core.List.{List, [], ◌∷◌, ◌++◌, map}
use mathlib.Core.Option.{none}
use mathlib.Core.Path.{◌≡◌, refl, sym, ap, ap₂, ◌∙◌}
use native.Mathlib.Nat.{zero-mul}
use native.Mathlib.Omega.{arith}
use native.Mathlib.Numerals.{add-one}
use lib.ListN.{length, take, drop, length-map}
use lib.Seq.{take-suc, take-length, drop-drop, length-take-le}
use Rattle.laws.proofs.Numbers.{next_row}
use Rattle.phrase.specs.Phrase.{Phrase, Candidate}
use Rattle.limits.specs.Sizes.{entry_words}
use Rattle.record.specs.Layout.{limits_of}
use Rattle.record.specs.Meaning.{phrase_of}
use Rattle.record.specs.Refusals.{refusal_of}
use Rattle.record.specs.Inner.Reading.{candidate_of}
use Rattle.entries.specs.Entry.{Entry}
use Rattle.entries.specs.Words.{all_words}
use Rattle.entries.specs.Ranking.{rank_onto, ranked}
use Rattle.laws.proofs.Each.{each_map, each_take}
use Rattle.entries.specs.Inner.Placing.{Inserted}
use Rattle.entries.proofs.Ranks.{each_ranked, ranked_more}
use Rattle.entries.proofs.RankedLength.{length_ranked}
use Rattle.decoding.specs.EntryOf.{entry_of, entries_of}
use Rattle.decoding.proofs.Demands.{candidates_fit}

module _ (most : ℕ) (phrase : Phrase) where
  -- the entries of the first n candidates
  abbrev pub first_entries : ℕ → List Entry
  first_entries n = map (entry_of phrase) (take n phrase.candidates)

  map_snoc : (cs : List Candidate) (c : Candidate)
      → map (entry_of phrase) (cs ++ (c ∷ [])) ≡ map (entry_of phrase) cs ++ (entry_of phrase c ∷ [])
  map_snoc [] c = refl
  map_snoc (x ∷ cs) c = ap (λ (es : List Entry). entry_of phrase x ∷ es) (map_snoc cs c)

  one_more : (n : ℕ) → n < length phrase.candidates
      → first_entries n ++ (entry_of phrase (candidate_of phrase n) ∷ []) ≡ first_entries (n + 1)
  one_more n below =
      sym (map_snoc (take n phrase.candidates) (candidate_of phrase n))
      ∙ ap (map (entry_of phrase))
      (sym (take-suc phrase.candidates n _ below) ∙ ap (λ (m : ℕ). take m phrase.candidates) (sym (add-one n)))

  -- what the output holds after n candidates, from what it held before all of them
  abbrev pub held_after : ℕ → List ℕ → List ℕ
  held_after n out = all_words most (ranked (first_entries n)) ++ drop (n * entry_words most) out

  pub none_held : (out : List ℕ) → out ≡ held_after 0 out
  unfolding all_words rank_onto
  none_held out = sym (ap (λ (n : ℕ). drop n out) (zero-mul (entry_words most)))

  pub every_entry : first_entries (length phrase.candidates) ≡ entries_of phrase
  every_entry = ap (map (entry_of phrase)) (take-length phrase.candidates)

module _ (bytes : List ℕ) (accepted : refusal_of bytes ≡ none) where
  abbrev phrase : Phrase
  phrase = phrase_of bytes

  abbrev most : ℕ
  most = (limits_of bytes).units

  pub next_held : (n : ℕ) (out : List ℕ) {before after : List ℕ} → n < length phrase.candidates → before ≡ held_after most phrase n out
      → Inserted most n (entry_of phrase (candidate_of phrase n)) before after → after ≡ held_after most phrase (n + 1) out
  next_held n out below held inserted =
      let counted : length (ranked (first_entries most phrase n)) ≡ n =
      length_ranked (first_entries most phrase n)
      ∙ omega (arith, length-map (take n phrase.candidates) (entry_of phrase), length-take-le n phrase.candidates (omega arith)) in
      inserted.ranked (ranked (first_entries most phrase n)) (drop (n * entry_words most) out)
      (each_ranked _ (each_map (entry_of phrase) (each_take n (candidates_fit bytes accepted)))) counted held
      ∙ ap₂ (λ (es : List Entry) (rest : List ℕ). all_words most es ++ rest)
      (sym (ranked_more [] (first_entries most phrase n) (entry_of phrase (candidate_of phrase n))) ∙ ap ranked (one_more most phrase n below))
      (drop-drop (entry_words most) (n * entry_words most) out ∙ ap (λ (k : ℕ). drop k out) (next_row n (entry_words most)))
