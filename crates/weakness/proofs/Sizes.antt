-- The sizes of legal levels, and the smallest among some of them.
use Rattle.std.proofs.Common.{◌≡◌, ℕ, zero, suc, ◌+◌, ◌*◌, ◌<◌, ◌≤◌, true, false, List, [], length, get_or, take, fold, sym, refl, ap, ◌∙◌, inl, inr, add-zero, zero-add, add-one, arith}
use mathlib.Core.Path.{subst⁻¹}
use lib.Ieee.{Float, nan, inf, fin, lt}
use Rattle.std.proofs.lemmas.Bool.{cases_eq}
use Rattle.std.proofs.lemmas.List.{take_all}
use Rattle.std.proofs.lemmas.List.Sums.{fold_more}
use Rattle.std.specs.Float.{float_min, float_with_sign}
use Rattle.std.specs.Simd.{first_chunks}
use Rattle.levels.proofs.Chunks.{in_chunk}
use Rattle.levels.specs.Faults.{LegalBelow}
use Rattle.levels.specs.Levels.{legal}
use Rattle.levels.proofs.Means.{legal_within}
use Rattle.weakness.specs.Weakness.{size, smallest, weakest_of, weakness, Before, Least, Size, number}
use Rattle.weakness.proofs.Order.{least_either, least_none_below, not_below_trans, scan_weakest, weakest_one, Sizes, WeakestPair}

legal_size : (x : Float) → legal x ≡ true → Size (float_with_sign false x)
unfolding float_with_sign
legal_size nan h = absurd ((legal_within nan).0 h)
legal_size (inf s) h = absurd ((legal_within (inf s)).0 h)
legal_size (fin s m e) h = number m e

size_at : (xs : List Float) → LegalBelow xs 972 → (i : ℕ) → i < 972 → Size (size xs i)
size_at xs l i h = legal_size (get_or xs i nan) (l i h)

-- ---- the smallest

-- of one level
smallest_one : (xs : List Float) (at : ℕ) → smallest xs at 1 ≡ size xs at
unfolding smallest
smallest_one xs at =
    least_either (size xs at) (size xs (at + 0)) (λ x. x ≡ size xs at) refl (ap (size xs) (add-zero at))

-- of the first n of some levels
smallest_fold : (xs : List Float) (n : ℕ) → n ≤ length xs
    → fold (λ a x. float_min a (float_with_sign false x)) (size xs 0) (take n xs) ≡ smallest xs 0 n
unfolding smallest
smallest_fold xs zero h = refl
smallest_fold xs (suc n) h =
    rw (← add-one n, fold_more (λ a x. float_min a (float_with_sign false x)) (size xs 0) xs n nan h, smallest_fold xs n (omega arith), zero-add n)

-- of all six
pub six_fold : (xs : List Float) → length xs ≡ 6 → fold (λ a x. float_min a (float_with_sign false x)) (size xs 0) xs ≡ weakness xs 0
six_fold xs h = ap (fold (λ a x. float_min a (float_with_sign false x)) (size xs 0)) (sym (take_all 6 xs (omega arith))) ∙ smallest_fold xs 6 (omega arith)

-- of the six levels of a place
smallest_in : (xs : List Float) (m k n : ℕ) → k < m → n ≤ 6 → smallest (get_or (first_chunks 6 m xs) k []) 0 n ≡ smallest xs (6 * k) n
unfolding smallest
smallest_in xs m k zero l h = rw (in_chunk 6 m k 0 xs nan l (omega arith), add-zero (6 * k))
smallest_in xs m k (suc n) l h = rw (smallest_in xs m k n l (omega arith), zero-add n, in_chunk 6 m k n xs nan l h)

pub weakness_in : (xs : List Float) (m k : ℕ) → k < m → weakness (get_or (first_chunks 6 m xs) k []) 0 ≡ weakness xs k
weakness_in xs m k l = smallest_in xs m k 6 l (omega arith)

smallest_size : (xs : List Float) → LegalBelow xs 972 → (at n : ℕ) → at < 972 → at + n ≤ 972 → Size (smallest xs at n)
unfolding smallest
smallest_size xs l at zero h g = size_at xs l at h
smallest_size xs l at (suc n) h g =
    least_either (smallest xs at n) (size xs (at + n)) Size (smallest_size xs l at n h (omega arith)) (size_at xs l (at + n) (omega arith))

-- it is the size of one of the levels
one_of : (xs : List Float) (at n : ℕ) → (k : ℕ) × (k ≤ n) × (smallest xs at (suc n) ≡ size xs (at + k))
unfolding smallest
one_of xs at zero = (0, omega arith, smallest_one xs at ∙ ap (size xs) (sym (add-zero at)))
one_of xs at (suc n) =
    let before = one_of xs at n in
    least_either (smallest xs at (suc n)) (size xs (at + suc n)) (λ z. (k : ℕ) × (k ≤ suc n) × (z ≡ size xs (at + k)))
    (before.0, omega (arith, before.1), before.2) (suc n, omega arith, refl)

-- and none of them is smaller
falls : (xs : List Float) → LegalBelow xs 972 → (at n : ℕ) → at + n < 972
    → (lt (smallest xs at n) (smallest xs at (suc n)) ≡ false) × (lt (size xs (at + n)) (smallest xs at (suc n)) ≡ false)
unfolding smallest
falls xs l at n h =
    least_none_below (smallest xs at n) (size xs (at + n)) (smallest_size xs l at n (omega arith) (omega arith)) (size_at xs l (at + n) h)

none_smaller : (xs : List Float) → LegalBelow xs 972 → (at n : ℕ) → at + n ≤ 972 → (j : ℕ) → j < n → lt (size xs (at + j)) (smallest xs at n) ≡ false
none_smaller xs l at zero h j k = absurd (omega arith)
none_smaller xs l at (suc n) h j k =
    let f = falls xs l at n (omega arith) in
    elim (cases_eq j n) [
      | inl e ↦ subst⁻¹ (λ i. lt (size xs (at + i)) (smallest xs at (suc n)) ≡ false) e f.1
      | inr d ↦ not_below_trans (smallest xs at (suc n)) (smallest xs at n) (size xs (at + j))
          (smallest_size xs l at (suc n) (omega arith) h) (smallest_size xs l at n (omega arith) (omega arith)) (size_at xs l (at + j) (omega arith))
          f.0 (none_smaller xs l at n (omega arith) j (omega arith))
    ]

-- ---- weaknesses

pub weakness_sizes : (xs : List Float) → LegalBelow xs 972 → Sizes (weakness xs)
weakness_sizes xs l k h = smallest_size xs l (6 * k) 6 (omega arith) (omega arith)

pub weakness_least : (xs : List Float) → LegalBelow xs 972 → (k : ℕ) → k < 162 → Least xs k
weakness_least xs l k h =
    let o = one_of xs (6 * k) 5 in
    record { level = o.0; inside = omega (arith, o.1); is = o.2; none_smaller = none_smaller xs l (6 * k) 6 (omega arith) }

pub weakest_is : (xs : List Float) → LegalBelow xs 972 → (p : ℕ × ℕ) → WeakestPair (weakness xs) p → p ≡ weakest_of xs
unfolding weakest_of
weakest_is xs l p u = weakest_one (weakness xs) (weakness_sizes xs l) p _ u (scan_weakest (weakness xs) (weakness_sizes xs l))

-- by the same numbers the same places are the weakest
before_same : (v w : ℕ → Float) → ((k : ℕ) → k < 162 → v k ≡ w k) → (i j : ℕ) → i < 162 → j < 162 → Before v i j → Before w i j
before_same v w e i j hi hj b = rw (← e i hi, ← e j hj) b

pub weakest_same : (v w : ℕ → Float) → ((k : ℕ) → k < 162 → v k ≡ w k) → (p : ℕ × ℕ) → WeakestPair v p → WeakestPair w p
weakest_same v w e p u =
    let low : p.0 < p.1 = u.order in
    let high : p.1 < 162 = u.inside in
    record {
      order = low;
      inside = high;
      others = λ k hk a b. let o = u.others k hk a b in (
        before_same v w e p.0 k (omega arith) hk o.0,
        before_same v w e p.1 k high hk o.1,
      );
    }
