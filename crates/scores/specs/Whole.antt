-- Levels that are whole eighths, and the squares for them in whole sixty-fourths.
use Rattle.std.specs.Prelude.{◌≡◌, ℕ, ◌*◌, ◌≤◌, max, Bool, true, false, cond, T, List, [], ◌∷◌, ℤ, pos, negsuc, ◌-ℤ◌, neg_ℤ, fold, sum, ◌==◌, unsigned_abs, Float}
use Rattle.std.specs.Float.{binary32}
use Rattle.std.specs.Float.Ieee.{fits}
use Rattle.std.specs.Float.Ieee.Exact.{HasValue}
use Rattle.bits.specs.Bits.{bits_of}
use Rattle.levels.specs.Levels.{legal}
use Rattle.scores.specs.declared.Score.{Score}

abbrev pub signed : Bool → ℕ → ℤ
signed true n = neg_ℤ (pos n)
signed false n = pos n

-- x is k eighths; zero may have either sign
pub record Eighth (x : Float) (k : ℤ) : Type 0 where
  pub minus : Bool
  pub value : HasValue x minus (unsigned_abs k) 8
  pub means : signed minus (unsigned_abs k) ≡ k

-- the levels are ks eighths, one by one
abbrev pub Eighths : List Float → List ℤ → Type 0
Eighths [] [] = Unit {0}
Eighths [] (k ∷ ks) = ⊥
Eighths (x ∷ xs) [] = ⊥
Eighths (x ∷ xs) (k ∷ ks) = Eighth x k × Eighths xs ks

-- for each k from -32 to 32, some f32 that is a legal level is k eighths
abbrev pub EveryEighth : Type 0
EveryEighth = (k : ℤ) → unsigned_abs k ≤ 32 → (x : Float) × (T (fits binary32 x)) × (legal x ≡ true) × Eighth x k

-- how far k eighths are from the sign of the bit b, in eighths
abbrev pub apart : ℤ → ℕ → ℕ
apart k b = unsigned_abs (k -ℤ cond (b == 1) (negsuc 7) (pos 8))

-- the squares, in sixty-fourths
unfoldable pub whole_squares : List ℤ → List ℕ → List ℕ
whole_squares [] bs = []
whole_squares (k ∷ ks) [] = []
whole_squares (k ∷ ks) (b ∷ bs) = apart k b * apart k b ∷ whole_squares ks bs

-- against levels that are whole eighths, the sum and the largest are those of the squares, with no error
pub record Exact (xs : List Float) (w : List ℕ) (s : Score) : Type 0 where
  pub total : (ks : List ℤ) → Eighths xs ks → HasValue s.sum false (sum (whole_squares ks (bits_of w))) 64
  pub largest : (ks : List ℤ) → Eighths xs ks → HasValue s.largest false (fold max 0 (whole_squares ks (bits_of w))) 64
