-- Two problems that agree wherever an admitted path of at most k units looks: they admit the same paths, with the same sums, and the cell
-- rule keeps the same paths in both, cell by cell. Assumes nothing.
use Prim.Native.Nat.{ℕ, zero, suc, ◌≤◌, ◌<◌}
use native.Mathlib.Omega.{arith}
use native.Mathlib.Nat.{le_of_eq}
use mathlib.Core.Path.{◌≡◌, refl, sym, ap, ap₂, subst, subst₂, ◌∙◌}
use mathlib.Core.Logic.{◌↔◌}
use mathlib.Core.Bool.{Bool, cond}
use lib.Dec.{T}
use lib.Ieee.{binary64, add, sub, lt, le}
use Rattle.laws.proofs.Tests.{by_choice}
use Rattle.paths.specs.Problem.{Problem}
use Rattle.paths.specs.Path.{Path, begin, gap, unit, end, count, Admitted, begins, gaps, units, value, sum, Best, NoPath}
use Rattle.paths.specs.Cell.{Cell, held, keep, best, carry, only}
use Rattle.paths.specs.CellRule.{sweep, arrival, rows, paths, chosen_path}
use Rattle.paths.proofs.Cells.{Every, every_empty, every_held, every_keep, every_carry}
use Rattle.paths.proofs.Keeping.{rows_every}
use Rattle.paths.proofs.PathRoutes.{end_inside}

pub record Agreeing (k : ℕ) (q q' : Problem) : Type 0 where
  pub size : q.size ≡ q'.size
  pub starts : (i : ℕ) → i < q.size → q.start i ≡ q'.start i
  pub gaps : (i : ℕ) → suc i < q.size → q.gap_cost i ≡ q'.gap_cost i
  pub stops : (i : ℕ) → i < q.size → q.stop_cost i ≡ q'.stop_cost i
  pub allowed : (i j : ℕ) → i < j → j < q.size → q.unit_ok i j ≡ q'.unit_ok i j
  pub units : (unit i j : ℕ) → unit < k → i < j → j < q.size → T (q.unit_ok i j) → q.unit_value unit i j ≡ q'.unit_value unit i j

pub agreeing_sym : {k : ℕ} {q q' : Problem} → Agreeing k q q' → Agreeing k q' q
agreeing_sym agree = record {
  size = sym agree.size;
  starts = λ i h. sym (agree.starts i (omega arith));
  gaps = λ i h. sym (agree.gaps i (omega arith));
  stops = λ i h. sym (agree.stops i (omega arith));
  allowed = λ i j h l. sym (agree.allowed i j h (omega arith));
  units =
      λ unit i j below h l ok. sym (agree.units unit i j below h (omega arith) (subst T (sym (agree.allowed i j h (omega arith))) ok));
}

-- ---- the same paths, with the same sums

-- what is admitted goes by how many boundaries there are and which units may go between them, and by no figure
pub admitted_alike :
    {q q' : Problem} → q.size ≡ q'.size → ((i j : ℕ) → i < j → j < q.size → q.unit_ok i j ≡ q'.unit_ok i j) → {p : Path} →
    Admitted q p → Admitted q' p
admitted_alike sized allowed (begins {j = j} l) = begins {j = j} (omega arith)
admitted_alike sized allowed (gaps {p = p} a l) = gaps {p = p} (admitted_alike sized allowed a) (omega arith)
admitted_alike sized allowed (units {p = p} {j = j} a h l ok) =
    units {p = p} {j = j} (admitted_alike sized allowed a) h (omega arith) (subst T (allowed (end p) j h l) ok)

module _ {k : ℕ} {q q' : Problem} (agree : Agreeing k q q') where
  pub admitted_too : {p : Path} → Admitted q p → Admitted q' p
  admitted_too a = admitted_alike agree.size agree.allowed a

  pub same_value : {p : Path} → Admitted q p → count p ≤ k → value q p ≡ value q' p
  unfolding value count
  same_value (begins {j = j} l) few = agree.starts j l
  same_value (gaps {p = p} a l) few = ap₂ (sub binary64) (same_value a few) (agree.gaps (end p) l)
  same_value (units {p = p} {j = j} a h l ok) few =
      ap₂ (add binary64) (same_value a (omega arith)) (agree.units (count p) (end p) j few h l ok)

  pub same_sum : {p : Path} → Admitted q p → count p ≤ k → sum q p ≡ sum q' p
  unfolding sum
  same_sum {p} a few = ap₂ (sub binary64) (same_value a few) (agree.stops (end p) (end_inside a))

pub same_admitted : {k : ℕ} {q q' : Problem} → Agreeing k q q' → (p : Path) → Admitted q p ↔ Admitted q' p
same_admitted agree p = (admitted_too agree, admitted_too (agreeing_sym agree))

-- so a best path of one is a best path of the other, and one has none where the other has none
module _ {k : ℕ} {q q' : Problem} (agree : Agreeing k q q') where
  pub best_too : {p : Path} → Best q k p → Best q' k p
  best_too {p} best = record {
    admitted = admitted_too agree best.admitted;
    counted = best.counted;
    largest = λ r a counted.
        let b = admitted_too (agreeing_sym agree) a in
        subst₂ (λ u v. T (le u v)) (same_sum agree b (le_of_eq counted)) (same_sum agree best.admitted (le_of_eq best.counted))
        (best.largest r b counted);
  }

  pub no_path_too : NoPath q k → NoPath q' k
  unfolding NoPath
  no_path_too missing p a counted = missing p (admitted_too (agreeing_sym agree) a) counted

-- ---- cells that two comparisons agree on

every_best : {A : Type 0} {P : A → Type 0} (less : A → A → Bool) (m : ℕ) (ways : ℕ → Cell A) → ((i : ℕ) → i < m → Every P (ways i))
    → Every P (best less m ways)
unfolding best
every_best less zero ways every = every_empty
every_best less (suc m) ways every = every_keep less (every_best less m ways (λ i h. every i (omega arith))) (every m (omega arith))

module _ {A : Type 0} (P : A → Type 0) (less less' : A → A → Bool) (same : (a b : A) → P a → P b → less a b ≡ less' a b) where
  keep_alike : {c d : Cell A} → Every P c → Every P d → keep less c d ≡ keep less' c d
  unfolding keep
  keep_alike every_empty later = refl
  keep_alike (every_held p) every_empty = refl
  keep_alike (every_held {a = a} p) (every_held {a = b} r) = ap (λ t. cond t (held b) (held a)) (same a b p r)

  best_alike : (m : ℕ) (ways ways' : ℕ → Cell A) → ((i : ℕ) → i < m → Every P (ways i)) → ((i : ℕ) → i < m → ways i ≡ ways' i)
      → best less m ways ≡ best less' m ways'
  unfolding best
  best_alike zero ways ways' every is = refl
  best_alike (suc m) ways ways' every is =
      keep_alike (every_best less m ways (λ i h. every i (omega arith))) (every m (omega arith))
      ∙ ap₂ (keep less') (best_alike m ways ways' (λ i h. every i (omega arith)) (λ i h. is i (omega arith))) (is m (omega arith))

-- ---- what the rows hold

-- a path of s units that stands at boundary j; an admitted one, where j is a boundary of the problem
record Reaches (q : Problem) (s j : ℕ) (p : Path) : Type 0 where
  counts : count p ≡ s
  ends : end p ≡ j
  admitted : j < q.size → Admitted q p

module _ (q : Problem) where
  start_reaches : (j : ℕ) → Reaches q zero j (begin j)
  unfolding count end
  start_reaches j = record { counts = refl; ends = refl; admitted = λ h. begins h }

  gap_reaches : (s j : ℕ) (p : Path) → Reaches q s j p → Reaches q s (suc j) (gap p)
  unfolding count end
  gap_reaches s j p at = record {
    counts = at.counts;
    ends = ap suc at.ends;
    admitted = λ h. gaps (at.admitted (omega arith)) (subst (λ i. suc i < q.size) (sym at.ends) h);
  }

  unit_reaches : (s i j : ℕ) (p : Path) → i < j → T (q.unit_ok i j) → Reaches q s i p → Reaches q (suc s) j (unit p j)
  unfolding count end
  unit_reaches s i j p l ok at = record {
    counts = ap suc at.counts;
    ends = refl;
    admitted = λ h.
        units (at.admitted (omega arith)) (subst (λ m. m < j) (sym at.ends) l) h (subst (λ m. T (q.unit_ok m j)) (sym at.ends) ok);
  }

  rows_reach : (s j : ℕ) → Every (Reaches q s j) (rows q (paths q) s j)
  unfolding paths
  rows_reach = rows_every q (paths q) (Reaches q)
      record {
        starts = start_reaches;
        gaps = λ s j p e. gap_reaches s j p;
        units = λ s i j p l ok e. unit_reaches s i j p l ok;
      }

  units_reach : (s j i : ℕ) → i < j → Every (Reaches q (suc s) j) (arrival q (paths q) s (rows q (paths q) s) j i)
  unfolding arrival only paths
  units_reach s j i l =
      by_choice (Every (Reaches q (suc s) j)) (q.unit_ok i j)
      (λ ok. every_carry (λ p. unit p j) (rows q (paths q) s i) (λ p e. unit_reaches s i j p l ok) (rows_reach s i)) (λ barred. every_empty)

-- ---- the same cells, and the same path chosen

module _ {k : ℕ} {q q' : Problem} (agree : Agreeing k q q') where
  same_less : (s j : ℕ) → s ≤ k → j < q.size → (p r : Path) → Reaches q s j p → Reaches q s j r → (paths q).less p r ≡ (paths q').less p r
  unfolding paths
  same_less s j few l p r a b =
      ap₂ lt (same_value agree (a.admitted l) (omega (arith, a.counts))) (same_value agree (b.admitted l) (omega (arith, b.counts)))

  sweep_alike : (s : ℕ) → s ≤ k → (arrived arrived' : ℕ → Cell Path) → ((j : ℕ) → Every (Reaches q s j) (arrived j))
      → ((j : ℕ) → Every (Reaches q s j) (sweep (paths q) arrived j)) → ((j : ℕ) → j < q.size → arrived j ≡ arrived' j)
      → (j : ℕ) → j < q.size → sweep (paths q) arrived j ≡ sweep (paths q') arrived' j
  unfolding sweep paths
  sweep_alike s few arrived arrived' every swept is zero l = is zero l
  sweep_alike s few arrived arrived' every swept is (suc j) l =
      keep_alike (Reaches q s (suc j)) (paths q).less (paths q').less (same_less s (suc j) few l) (every (suc j))
      (every_carry gap (sweep (paths q) arrived j) (λ p e. gap_reaches q s j p) (swept j))
      ∙ ap₂ (keep (paths q').less) (is (suc j) l) (ap (carry gap) (sweep_alike s few arrived arrived' every swept is j (omega arith)))

  arrival_alike : (s j i : ℕ) → i < j → j < q.size → rows q (paths q) s i ≡ rows q' (paths q') s i
      → arrival q (paths q) s (rows q (paths q) s) j i ≡ arrival q' (paths q') s (rows q' (paths q') s) j i
  unfolding arrival paths
  arrival_alike s j i h l is = ap₂ (λ t c. only t (carry (λ p. unit p j) c)) (agree.allowed i j h l) is

  pub same_rows : (s j : ℕ) → s ≤ k → j < q.size → rows q (paths q) s j ≡ rows q' (paths q') s j
  unfolding rows paths
  same_rows zero j few l =
      sweep_alike zero few (λ j. held (begin j)) (λ j. held (begin j)) (λ j. every_held (start_reaches q j)) (rows_reach q zero)
      (λ j h. refl) j l
  same_rows (suc s) j few l =
      sweep_alike (suc s) few (λ j. best (paths q).less j (arrival q (paths q) s (rows q (paths q) s) j))
      (λ j. best (paths q').less j (arrival q' (paths q') s (rows q' (paths q') s) j))
      (λ j. every_best (paths q).less j _ (units_reach q s j))
      (rows_reach q (suc s))
      (λ j h. best_alike (Reaches q (suc s) j) (paths q).less (paths q').less (same_less (suc s) j few h) j _ _ (units_reach q s j)
      (λ i below. arrival_alike s j i below h (same_rows s i (omega arith) (omega arith)))) j l

  pub same_chosen : (n : ℕ) → n ≤ k → chosen_path q n ≡ chosen_path q' n
  unfolding chosen_path
  same_chosen n few =
      best_alike (λ p. Admitted q p × (count p ≤ k)) (λ p r. lt (sum q p) (sum q r)) (λ p r. lt (sum q' p) (sum q' r))
      (λ p r a b. ap₂ lt (same_sum agree a.0 a.1) (same_sum agree b.0 b.1)) q.size (rows q (paths q) n)
      (rows q' (paths q') n)
      (λ j l. few_units_law j l (rows_reach q n j)) (λ j l. same_rows n j few l)
      ∙ ap (λ size. best (λ p r. lt (sum q' p) (sum q' r)) size (rows q' (paths q') n)) agree.size
    where
      few_units_law : (j : ℕ) → j < q.size → {c : Cell Path} → Every (Reaches q n j) c → Every (λ p. Admitted q p × (count p ≤ k)) c
      few_units_law j l every_empty = every_empty
      few_units_law j l (every_held at) = every_held (at.admitted l, omega (arith, at.counts))
