-- How weak a place is, and the two weakest places.
use Rattle.std.specs.Prelude.{◌≡◌, ℕ, zero, suc, ◌+◌, ◌*◌, ◌<◌, true, false, cond, ◌≢◌, ◌⊎◌, List, ℤ, nat_lt, slice_index_or, Float}
use Rattle.std.specs.Float.Ieee.{lt}
use Rattle.std.specs.Float.{float_min, float_with_sign, nan, fin}

-- the size of level i
abbrev pub size : List Float → ℕ → Float
size xs i = float_with_sign false (slice_index_or xs i nan)

-- what sizes are: finite numbers without a minus
pub data Size : Float → Type 0 where
  number : (m : ℕ) (e : ℤ) → Size (fin false m e)

-- the smallest size among the n levels from `at` on, where n is not 0
unfoldable pub smallest : List Float → ℕ → ℕ → Float
smallest xs at zero = size xs at
smallest xs at (suc n) = float_min (smallest xs at n) (size xs (at + n))

-- among the six levels of the symbol at place p
abbrev pub weakness : List Float → ℕ → Float
weakness xs p = smallest xs (6 * p) 6

-- the weakness of place p is the size of one of its six levels, and none of them is smaller
pub record Least (xs : List Float) (p : ℕ) : Type 0 where
  pub level : ℕ
  pub inside : level < 6
  pub is : weakness xs p ≡ size xs (6 * p + level)
  pub none_smaller : (j : ℕ) → j < 6 → lt (size xs (6 * p + j)) (weakness xs p) ≡ false

-- by the weaknesses w, place i is weaker than place j, or as weak and lower
abbrev pub Before : (ℕ → Float) → ℕ → ℕ → Type 0
Before w i j = (lt (w i) (w j) ≡ true) ⊎ ((lt (w j) (w i) ≡ false) × (i < j))

-- p and q are the two weakest of 162 places, the lower first
pub record Weakest (w : ℕ → Float) (p q : ℕ) : Type 0 where
  pub order : p < q
  pub inside : q < 162
  pub others : (k : ℕ) → k < 162 → k ≢ p → k ≢ q → Before w p k × Before w q k

-- the two weakest so far, the weaker first, and one place more
abbrev pub with_place : (ℕ → Float) → ℕ → ℕ × ℕ → ℕ × ℕ
with_place w k p = cond (lt (w k) (w p.0)) (k, p.0) (cond (lt (w k) (w p.1)) (p.0, k) p)

-- the two weakest places below n + 2, the weaker first
unfoldable pub weakest_below : (ℕ → Float) → ℕ → ℕ × ℕ
weakest_below w zero = cond (lt (w 1) (w 0)) (1, 0) (0, 1)
weakest_below w (suc n) = with_place w (n + 2) (weakest_below w n)

abbrev pub lower_first : ℕ × ℕ → ℕ × ℕ
lower_first p = cond (nat_lt p.0 p.1) p (p.1, p.0)

-- the two weakest places by 972 levels, the lower first
unfoldable pub weakest_of : List Float → ℕ × ℕ
weakest_of xs = lower_first (weakest_below (weakness xs) 160)
