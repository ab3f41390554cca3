-- The first number that fails a test, found by going up.
use Rattle.std.proofs.Common.{◌≡◌, ℕ, zero, suc, ◌+◌, ◌<◌, ◌≤◌, Bool, true, false, not, cond, ltb, List, length, get_or, Some, None, Option, sym, refl, ap, ◌∙◌, inl, inr, arith}
use Rattle.std.proofs.lemmas.Bool.{cases_Bool, cases_eq, cond-true, cond-false, cond_both, ltb-true, ltb-false}
use Rattle.std.proofs.lemmas.List.Sums.{fails_before_first, passes_at_first}
use Rattle.std.specs.List.{position_or_len}
use Rattle.parity.specs.Bytes.{first_from, first}

from_none : (p : ℕ → Bool) (n i : ℕ) → ((k : ℕ) → i ≤ k → k < i + n → p k ≡ true) → first_from i n p ≡ None
unfolding first_from
from_none p zero i h = refl
from_none p (suc n) i h = rw (h i (omega arith) (omega arith), from_none p n (suc i) (λ k a b. h k (omega arith) (omega arith)))

from_at : (p : ℕ → Bool) (n i d : ℕ) → d < n → ((k : ℕ) → i ≤ k → k < i + d → p k ≡ true) → p (i + d) ≡ false
    → first_from i n p ≡ Some (i + d)
unfolding first_from
from_at p zero i d l h b = absurd (omega arith)
from_at p (suc n) i zero l h b =
    let e : i + 0 ≡ i = omega arith in
    let c : p i ≡ false = ap p (sym e) ∙ b in
    rw (c, e)
from_at p (suc n) i (suc d) l h b =
    let e : i + suc d ≡ suc i + d = omega arith in
    rw (h i (omega arith) (omega arith), e)
    (from_at p n (suc i) d (omega arith) (λ k x y. h k (omega arith) (omega arith)) (ap p (sym e) ∙ b))

pub first_none : (p : ℕ → Bool) (n : ℕ) → ((k : ℕ) → k < n → p k ≡ true) → first n p ≡ None
first_none p n h = from_none p n 0 (λ k a b. h k (omega arith))

pub first_at : (p : ℕ → Bool) (n d : ℕ) → d < n → ((k : ℕ) → k < d → p k ≡ true) → p d ≡ false → first n p ≡ Some d
first_at p n d l h b =
    let e : 0 + d ≡ d = omega arith in
    from_at p n 0 d l (λ k x y. h k (omega arith)) (ap p e ∙ b) ∙ ap Some e

none_both : (b : Bool) (o : Option ℕ) (i : ℕ) → cond b o (Some i) ≡ None → (b ≡ true) × (o ≡ None)
none_both true o i e = (refl, e)
none_both false o i e = let z : ◌≡◌ {A = ℕ} 0 1 = cc in absurd (omega arith)

from_all : (p : ℕ → Bool) (n i : ℕ) → first_from i n p ≡ None → (k : ℕ) → i ≤ k → k < i + n → p k ≡ true
unfolding first_from
from_all p zero i e k a b = absurd (omega arith)
from_all p (suc n) i e k a b =
    let both = none_both (p i) (first_from (suc i) n p) i e in
    elim (cases_eq i k) [
      | inl q ↦ ap p (sym q) ∙ both.0
      | inr q ↦ from_all p n (suc i) both.1 k (omega arith) (omega arith)
    ]

pub first_all : (p : ℕ → Bool) (n : ℕ) → first n p ≡ None → (k : ℕ) → k < n → p k ≡ true
first_all p n e k l = from_all p n 0 e k (omega arith) (omega arith)

from_some : (p : ℕ → Bool) (n i k : ℕ) → first_from i n p ≡ Some k → (k < i + n) × (p k ≡ false)
unfolding first_from
from_some p zero i k e = let z : ◌≡◌ {A = ℕ} 0 1 = cc in absurd (omega arith)
from_some p (suc n) i k e =
    elim (cases_Bool (p i)) [
      | inl t ↦ let h = from_some p n (suc i) k (sym (cond-true (p i) (first_from (suc i) n p) (Some i) t) ∙ e) in (omega (arith, h.0), h.1)
      | inr t ↦ let q : Some i ≡ Some k = sym (cond-false (p i) (first_from (suc i) n p) (Some i) t) ∙ e in
          let same : i ≡ k = cc in (omega arith, ap p (sym same) ∙ t)
    ]

pub first_some : (p : ℕ → Bool) (n k : ℕ) → first n p ≡ Some k → (k < n) × (p k ≡ false)
first_some p n k e = let h = from_some p n 0 k e in (omega (arith, h.0), h.1)

-- what `position` gives, by number
pub first_position : {X : Type 0} (test : X → Bool) (p : ℕ → Bool) (xs : List X) (d : X) → ((k : ℕ) → k < length xs → p k ≡ not (test (get_or xs k d)))
    → cond (ltb (position_or_len test xs) (length xs)) (Some (position_or_len test xs)) None ≡ first (length xs) p
first_position test p xs d e =
    let n : ℕ = position_or_len test xs in
    let m : ℕ = length xs in
    let early : (k : ℕ) → k < n → k < m → p k ≡ true = λ k l h. e k h ∙ ap not (fails_before_first test xs k d l) in
    cond_both (ltb n m) (Some n) None (λ r. r ≡ first m p)
    (λ t. let h : n < m = ltb-true n m t in
    sym (first_at p m n h (λ k l. early k l (omega arith)) (e n h ∙ ap not (passes_at_first test xs d h))))
    (λ t. let h : m ≤ n = ltb-false n m t in sym (first_none p m (λ k l. early k (omega arith) l)))
