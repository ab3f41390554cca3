-- Code words that differ from a word in at most one place.
use Rattle.std.specs.Prelude.{◌≡◌, ℕ, zero, suc, ◌/◌, ◌%◌, ◌<◌, ◌≤◌, List, Some, None, Option}
use Rattle.parity.specs.Code.{Codeword, altered}
pub use Rattle.parity.specs.Sound.{Near, OneNear}
use Rattle.parity.specs.Table.{bcnav3}
use Rattle.correction.specs.Search.{first_codeword}

-- trial number 0 is the word itself; number 63 p + x, where x is 1 to 63, adds x to the symbol at place p
abbrev pub trial : List ℕ → ℕ → List ℕ
trial w zero = w
trial w (suc n) = altered w (n / 63) (suc (n % 63))

-- the first of the trials, up to number 63 * 162, that is a code word
unfoldable pub corrected : List ℕ → Option (List ℕ)
corrected w = first_codeword 10207 (trial w)

-- no trial with a number below n is a code word
abbrev pub Unfound : List ℕ → ℕ → Type 0
Unfound w n = (k : ℕ) → k < n → Codeword bcnav3 (trial w k) → ⊥

-- a search stopped at trial number n, which gave v: it is the first that is a code word
pub record FoundAt (w : List ℕ) (n : ℕ) (v : List ℕ) : Type 0 where
  pub most : n ≤ 10206
  pub first : Unfound w n
  pub is : v ≡ trial w n
  pub codeword : Codeword bcnav3 v

-- where a search stops that makes one trial after the other
abbrev pub Stops : List ℕ → ℕ → Option (List ℕ) → Type 0
Stops w n None = Unfound w 10207 × (n ≡ 10206)
Stops w n (Some v) = FoundAt w n v
