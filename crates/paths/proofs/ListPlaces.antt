-- Places in lists: in two that are joined, and in the image of one. Assumes nothing.
use Prim.Native.Nat.{ℕ, suc, ◌+◌}
use mathlib.Core.Path.{◌≡◌, refl, sym, ap, subst, ◌∙◌}
use mathlib.Core.List.{List, [], ◌∷◌, ◌++◌, map}
use native.Mathlib.Nat.{zero-add, suc-add}
use lib.ListN.{length}
use Rattle.paths.specs.Theory.Table.{At, at_first, at_next}

-- a place in joined lists, by the list that it is in
pub data Split {A : Type 0} (a : A) (s t : List A) (n : ℕ) : Type 0 where
  in_left : At a s n → Split a s t n
  in_right : {m : ℕ} → At a t m → n ≡ length s + m → Split a s t n

-- a place of an image
pub data Image {A B : Type 0} (f : A → B) (b : B) (s : List A) (n : ℕ) : Type 0 where
  image_of : {a : A} → b ≡ f a → At a s n → Image f b s n

module _ {A : Type 0} {a : A} where
  pub at_left : {s : List A} {n : ℕ} (t : List A) → At a s n → At a (s ++ t) n
  at_left t (at_first e) = at_first e
  at_left t (at_next i) = at_next (at_left t i)

  pub at_right : (s : List A) {t : List A} {n : ℕ} → At a t n → At a (s ++ t) (length s + n)
  at_right [] {t} {n} i = subst (At a t) (sym (zero-add n)) i
  at_right (x ∷ s) {t} {n} i = subst (At a (x ∷ (s ++ t))) (sym (suc-add (length s) n)) (at_next (at_right s i))

  pub at_split : (s : List A) {t : List A} {n : ℕ} → At a (s ++ t) n → Split a s t n
  at_split [] i = in_right i (sym (zero-add _))
  at_split (x ∷ s) (at_first e) = in_left (at_first e)
  at_split (x ∷ s) {t} (at_next i) = further (at_split s i)
    where
      further : {n : ℕ} → Split a s t n → Split a (x ∷ s) t (suc n)
      further (in_left i) = in_left (at_next i)
      further (in_right {m = m} i e) = in_right i (ap suc e ∙ sym (suc-add (length s) m))

pub at_map : {A B : Type 0} {a : A} (f : A → B) {s : List A} {n : ℕ} → At a s n → At (f a) (map f s) n
at_map f (at_first e) = at_first (ap f e)
at_map f (at_next i) = at_next (at_map f i)

pub map_at : {A B : Type 0} {b : B} (f : A → B) (s : List A) {n : ℕ} → At b (map f s) n → Image f b s n
map_at f [] i = elim i [ ]
map_at f (a ∷ s) (at_first e) = image_of e (at_first refl)
map_at {b = b} f (a ∷ s) (at_next i) = further (map_at f s i)
  where
    further : {n : ℕ} → Image f b s n → Image f b (a ∷ s) (suc n)
    further (image_of e i) = image_of e (at_next i)
