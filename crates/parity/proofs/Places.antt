-- Lists that differ at few places.
use Rattle.std.proofs.Common.{◌≡◌, ℕ, zero, suc, ◌≤◌, eqb, ◌≢◌, List, [], ◌∷◌, map, length, get_or, set, sym, refl, ap, ◌∙◌, inl, inr, arith, lit≤}
use Rattle.std.proofs.lemmas.List.{length-map}
use Rattle.std.proofs.lemmas.Bool.{cases_Bool, eq-eqb, eqb-true, cond-true, cond-false, cond_both}
use Rattle.std.specs.List.{AllByRecursion}
use Rattle.parity.specs.Code.{differences}

pub differences_none : (u : List ℕ) → differences u u ≡ 0
unfolding differences
differences_none [] = refl
differences_none (x ∷ u) = rw (eq-eqb x x refl) (differences_none u)

pub differences_set : (u : List ℕ) (p x : ℕ) → differences u (set u p x) ≤ 1
unfolding differences
differences_set [] p x = lit≤ tt
differences_set (y ∷ u) zero x =
    let none = differences_none u in
    cond_both (eqb y x) (differences u u) (suc (differences u u)) (λ n. n ≤ 1) (λ e. omega (arith, none)) (λ e. omega (arith, none))
differences_set (y ∷ u) (suc p) x = rw (eq-eqb y y refl) (differences_set u p x)

-- n places, and that the lists agree at every other
record Outside (n : ℕ) (u v : List ℕ) : Type 0 where
  places : List ℕ
  count : length places ≡ n
  rest : (k : ℕ) → AllByRecursion (λ p. k ≢ p) places → get_or u k 0 ≡ get_or v k 0

lower : (k : ℕ) (ps : List ℕ) → AllByRecursion (λ p. suc k ≢ p) (map suc ps) → AllByRecursion (λ p. k ≢ p) ps
lower k [] h = tt
lower k (p ∷ ps) h = (λ e. h.0 (ap suc e), lower k ps h.1)

outside : (u v : List ℕ) → length u ≡ length v → Outside (differences u v) u v
unfolding differences
outside [] [] h = record { places = []; count = refl; rest = λ k a. refl }
outside [] (y ∷ v) h = absurd (omega arith)
outside (x ∷ u) [] h = absurd (omega arith)
outside (x ∷ u) (y ∷ v) h =
    let n : ℕ = differences u v in
    let o = outside u v (omega arith) in
    let m : length (map suc o.places) ≡ n = length-map o.places suc ∙ o.count in
    elim (cases_Bool (eqb x y)) [
      | inl t ↦ record {
        places = map suc o.places;
        count = m ∙ sym (cond-true (eqb x y) n (suc n) t);
        rest = λ k. elim k as (λ j. AllByRecursion (λ p. j ≢ p) (map suc o.places) → get_or (x ∷ u) j 0 ≡ get_or (y ∷ v) j 0) [
          | zero ↦ λ a. eqb-true x y t
          | suc j ↦ λ a. o.rest j (lower j o.places a)
        ];
      }
      | inr t ↦ record {
        places = 0 ∷ map suc o.places;
        count = ap suc m ∙ sym (cond-false (eqb x y) n (suc n) t);
        rest = λ k. elim k as (λ j. AllByRecursion (λ p. j ≢ p) (0 ∷ map suc o.places) → get_or (x ∷ u) j 0 ≡ get_or (y ∷ v) j 0) [
          | zero ↦ λ a. absurd (a.0 refl)
          | suc j ↦ λ a. o.rest j (lower j o.places a.1)
        ];
      }
    ]

-- two places, and that the lists agree at every other
pub record Two (u v : List ℕ) : Type 0 where
  pub left : ℕ
  pub right : ℕ
  pub rest : (k : ℕ) → k ≢ left → k ≢ right → get_or u k 0 ≡ get_or v k 0

from_places : (u v : List ℕ) (ps : List ℕ) → length ps ≤ 2 → ((k : ℕ) → AllByRecursion (λ p. k ≢ p) ps → get_or u k 0 ≡ get_or v k 0) → Two u v
from_places u v [] h f = record { left = 0; right = 0; rest = λ k a b. f k tt }
from_places u v (p ∷ []) h f = record { left = p; right = p; rest = λ k a b. f k (a, tt) }
from_places u v (p ∷ q ∷ []) h f = record { left = p; right = q; rest = λ k a b. f k (a, (b, tt)) }
from_places u v (p ∷ q ∷ r ∷ ps) h f = absurd (omega arith)

pub two : (u v : List ℕ) → length u ≡ length v → differences u v ≤ 2 → Two u v
two u v h d = let o = outside u v h in from_places u v o.places (omega (arith, o.count)) o.rest

-- one place, and that the lists agree at every other
pub record One (u v : List ℕ) : Type 0 where
  pub place : ℕ
  pub rest : (k : ℕ) → k ≢ place → get_or u k 0 ≡ get_or v k 0

from_place_lem : (u v : List ℕ) (ps : List ℕ) → length ps ≤ 1 → ((k : ℕ) → AllByRecursion (λ p. k ≢ p) ps → get_or u k 0 ≡ get_or v k 0) → One u v
from_place_lem u v [] h f = record { place = 0; rest = λ k a. f k tt }
from_place_lem u v (p ∷ []) h f = record { place = p; rest = λ k a. f k (a, tt) }
from_place_lem u v (p ∷ q ∷ ps) h f = absurd (omega arith)

pub single : (u v : List ℕ) → length u ≡ length v → differences u v ≤ 1 → One u v
single u v h d = let o = outside u v h in from_place_lem u v o.places (omega (arith, o.count)) o.rest
