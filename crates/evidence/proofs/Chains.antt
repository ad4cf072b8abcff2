-- What chains over a mask or its frames give, as the definitions say it.
use Rattle.std.proofs.Common.{◌≡◌, ℕ, zero, suc, ◌+◌, Bool, true, false, ◌&&◌, cond, List, add-zero, add-one, refl, sym, ap, ◌∙◌, arith}
use Rattle.std.specs.List.{list_all, prefix_len, range_with_len}
use Rattle.evidence.specs.Masks.{marked, all_marked}
use Rattle.evidence.specs.CreakyTail.{in_tail, run_from}

-- a definition that goes down from the last frame, at the first one
both_ends : (a b c : Bool) → (a && (b && c)) ≡ (b && (a && c))
both_ends false false c = refl
both_ends false true c = refl
both_ends true b c = refl

first_marked : (mask : List ℕ) (first n : ℕ) → all_marked mask first (suc n) ≡ (marked mask first && all_marked mask (suc first) n)
unfolding all_marked
first_marked mask first zero = ap (λ (k : ℕ). marked mask k && true) (add-zero first)
first_marked mask first (suc n) =
    let next : first + suc n ≡ suc first + n = omega arith in
    ap (λ (b : Bool). marked mask (first + suc n) && b) (first_marked mask first n)
    ∙ both_ends (marked mask (first + suc n)) (marked mask first) (all_marked mask (suc first) n)
    ∙ ap (λ (k : ℕ). marked mask first && (marked mask k && all_marked mask (suc first) n)) next

pub all_listed : (mask : List ℕ) (first n : ℕ) → list_all (marked mask) (range_with_len first n) ≡ all_marked mask first n
unfolding all_marked
all_listed mask first zero = refl
all_listed mask first (suc n) =
    ap (λ (k : ℕ). marked mask first && list_all (marked mask) (range_with_len k n)) (add-one first)
    ∙ ap (λ (b : Bool). marked mask first && b) (all_listed mask (suc first) n) ∙ sym (first_marked mask first n)

pub run_listed : (pitched vowel : List ℕ) (first n : ℕ) → prefix_len (in_tail pitched vowel) (range_with_len first n) ≡ run_from pitched vowel first n
unfolding run_from
run_listed pitched vowel first zero = refl
run_listed pitched vowel first (suc n) =
    let rest = ap (λ (k : ℕ). prefix_len (in_tail pitched vowel) (range_with_len k n)) (add-one first) ∙ run_listed pitched vowel (suc first) n in
    ap (λ (k : ℕ). cond (in_tail pitched vowel first) k 0) (omega (arith, rest))
