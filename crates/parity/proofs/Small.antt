-- Lists of symbols.
use Rattle.std.proofs.Common.{◌≡◌, ℕ, zero, suc, ◌<◌, true, List, [], ◌∷◌, ◌++◌, length-append, length, get_or, take, set, replicate, ◌∙◌, inl, inr, arith, lit<}
use mathlib.Core.Path.{subst⁻¹}
use Rattle.std.proofs.lemmas.List.{get_or_past, length-set}
use Rattle.std.proofs.lemmas.Bool.{cases_lt, leb-true}
use Rattle.parity.specs.Bytes.{is_symbol}
use Rattle.parity.specs.Code.{SymbolList}

pub all_small : (w : List ℕ) (n : ℕ) → length w ≡ n → ((k : ℕ) → k < n → is_symbol w k ≡ true) → (k : ℕ) → get_or w k 0 < 64
all_small w n e h k =
    elim (cases_lt k n) [
      | inl l ↦ omega (arith, leb-true (get_or w k 0) 63 (h k l))
      | inr l ↦ subst⁻¹ (λ (z : ℕ). z < 64) (get_or_past w k 0 (omega arith)) (lit< tt)
    ]

pub take_small : (w : List ℕ) (n : ℕ) → ((k : ℕ) → get_or w k 0 < 64) → (k : ℕ) → get_or (take n w) k 0 < 64
take_small w zero h k = lit< tt
take_small [] (suc n) h k = lit< tt
take_small (x ∷ w) (suc n) h zero = h 0
take_small (x ∷ w) (suc n) h (suc k) = take_small w n (λ j. h (suc j)) k

pub set_small : (w : List ℕ) (i v : ℕ) → ((k : ℕ) → get_or w k 0 < 64) → v < 64 → (k : ℕ) → get_or (set w i v) k 0 < 64
set_small [] i v h l k = h k
set_small (x ∷ w) zero v h l zero = l
set_small (x ∷ w) zero v h l (suc k) = h (suc k)
set_small (x ∷ w) (suc i) v h l zero = h 0
set_small (x ∷ w) (suc i) v h l (suc k) = set_small w i v (λ j. h (suc j)) l k

pub zeros_small : (n k : ℕ) → get_or (replicate n 0) k 0 < 64
zeros_small zero k = lit< tt
zeros_small (suc n) zero = lit< tt
zeros_small (suc n) (suc k) = zeros_small n k

pub append_small : (u v : List ℕ) → ((k : ℕ) → get_or u k 0 < 64) → ((k : ℕ) → get_or v k 0 < 64) → (k : ℕ) → get_or (u ++ v) k 0 < 64
append_small [] v hu hv k = hv k
append_small (x ∷ u) v hu hv zero = hu 0
append_small (x ∷ u) v hu hv (suc k) = append_small u v (λ j. hu (suc j)) hv k

pub set_symbols : (n : ℕ) (w : List ℕ) (i v : ℕ) → SymbolList n w → v < 64 → SymbolList n (set w i v)
set_symbols n w i v s l = record { long = length-set w i v ∙ s.long; small = set_small w i v s.small l }

-- a message, and zeros in place of its check symbols
pub with_zeros : (m : List ℕ) → SymbolList 81 m → SymbolList 162 (m ++ replicate 81 0)
with_zeros m s = record { long = omega (arith, length-append m (replicate 81 0), s.long); small = append_small m (replicate 81 0) s.small (zeros_small 81) }
