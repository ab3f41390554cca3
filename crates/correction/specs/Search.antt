-- The code word that a search gives.
use Rattle.std.specs.Prelude.{◌≡◌, ℕ, List, is_some, Some, None, Option}
use Rattle.std.specs.Option.{option_map}
use Rattle.parity.specs.Bytes.{first, first_nonzero}
pub use Rattle.parity.specs.Words.{bytes_of}

-- of n candidates, the first that is a code word
unfoldable pub first_codeword : ℕ → (ℕ → List ℕ) → Option (List ℕ)
first_codeword n at = option_map at (first n (λ k. is_some (first_nonzero (at k))))

-- the only list that P holds of, or none where P holds of none
abbrev pub Only : (List ℕ → Type 0) → Option (List ℕ) → Type 0
Only P None = (v : List ℕ) → P v → ⊥
Only P (Some v) = P v × ((u : List ℕ) → P u → u ≡ v)
