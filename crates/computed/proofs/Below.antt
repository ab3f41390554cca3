-- A rule at all numbers below a bound, by one test that is computed.
use Rattle.std.proofs.Common.{◌≡◌, ℕ, zero, suc, ◌<◌, Bool, true, ◌&&◌, eqb, ltb, refl}
use Rattle.std.proofs.lemmas.Bool.{eqb-true, ltb-true}
use Rattle.std.proofs.lemmas.Bool.Decides.{Decides-below_and}

-- the test f passes at each number below n
abbrev pub all_below : ℕ → (ℕ → Bool) → Bool
all_below zero f = true
all_below (suc n) f = f n && all_below n f

pub each : (n : ℕ) (f : ℕ → Bool) → all_below n f ≡ true → (k : ℕ) → k < n → f k ≡ true
each n f = (Decides-below_and f (λ k. f k ≡ true) (λ m. all_below m f) (λ k. (λ e. e, λ e. e)) refl (λ m. refl) n).0

-- the same over pairs
pub each2 : (m n : ℕ) (f : ℕ → ℕ → Bool) → all_below m (λ a. all_below n (f a)) ≡ true → (a b : ℕ) → a < m → b < n → f a b ≡ true
each2 m n f t a b ha hb = each n (f a) (each m (λ a. all_below n (f a)) t a ha) b hb

-- two functions agree below n
pub same : (n : ℕ) (f g : ℕ → ℕ) → all_below n (λ a. eqb (f a) (g a)) ≡ true → (a : ℕ) → a < n → f a ≡ g a
same n f g t a ha = eqb-true (f a) (g a) (each n (λ a. eqb (f a) (g a)) t a ha)

pub same2 : (n : ℕ) (f g : ℕ → ℕ → ℕ) → all_below n (λ a. all_below n (λ b. eqb (f a b) (g a b))) ≡ true → (a b : ℕ) → a < n → b < n
    → f a b ≡ g a b
same2 n f g t a b ha hb = eqb-true (f a b) (g a b) (each2 n n (λ a b. eqb (f a b) (g a b)) t a b ha hb)

-- a function stays below m
pub less : (n m : ℕ) (f : ℕ → ℕ) → all_below n (λ a. ltb (f a) m) ≡ true → (a : ℕ) → a < n → f a < m
less n m f t a ha = ltb-true (f a) m (each n (λ a. ltb (f a) m) t a ha)
